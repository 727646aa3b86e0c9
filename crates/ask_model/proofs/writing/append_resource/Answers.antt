use Rattle.ask_model.proofs.OptionOrder.{path_short, query_short}
use Rattle.ask_model.proofs.Written.{resource_written}
use Rattle.ask_model.proofs.writing.append_resource.Goals as goal

pub append_texts-requires-clause-short : goal.append_texts-requires-clause-short
append_texts-requires-clause-short c = rw c.as_slice.ensures (path_short c.args.target.now c.requires.fits)

pub append_texts-requires-2-clause-short : goal.append_texts-requires-2-clause-short
append_texts-requires-2-clause-short c = rw c.as_slice-2.ensures (query_short c.args.target.now c.requires.fits)

pub returns-clause-ok : goal.returns-clause-ok
returns-clause-ok c =
    resource_written c.args.target.now c.args.format c.args.accept _ _ _ _ c.args.before c.in_ok-path.path c.in_ok-typed.typed c.in_ok-query.query c.args.out.now.items _ _ _ _ c.append_optional-2.result
    c.as_slice.ensures c.wide.ensures.same c.as_slice-2.ensures c.wide-2.ensures.same c.in_ok-path.ensures.ok c.in_ok-typed.ensures.ok c.in_ok-query.ensures.ok c.append_optional-2.ensures.ok
