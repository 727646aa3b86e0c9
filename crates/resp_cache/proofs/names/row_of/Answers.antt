use Rattle.resp_cache.proofs.Naming.{lower-before, row-is}
use Rattle.resp_cache.proofs.names.row_of.Goals as goal

pub end_before-end-requires-clause-within : goal.end_before-end-requires-clause-within
end_before-end-requires-clause-within c = c.first_from-first.ensures.within

pub end_before-end-requires-clause-before : goal.end_before-end-requires-clause-before
end_before-end-requires-clause-before c = lower-before c.args.from c.args.to c.args.names.now c.first_from-first.result c.requires.rise c.first_from-first.ensures

pub returns : goal.returns
returns c =
    row-is c.args.from c.args.to c.args.names.now c.first_from-first.result c.end_before-end.result c.end_before-end.ensures.behind c.first_from-first.ensures c.end_before-end.ensures.end
