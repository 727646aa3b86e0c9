use Rattle.std.proofs.Common.{◌∷◌, ◌∙◌, List, ap}
use Rattle.std.specs.List.{list_any}
use Rattle.resp_cache.specs.Stores.{is_of}
use Rattle.resp_cache.specs.Tables.{pairs_of}
use Rattle.resp_cache.specs.declared.pair.Pair.{Pair}
use Rattle.resp_cache.proofs.Lists.{none_taken}
use Rattle.resp_cache.proofs.table.put_first.Goals as goal

pub fill-requires-clause-other : goal.fill-requires-clause-other
fill-requires-clause-other c =
    ap (list_any (is_of c.args.pair.key)) c.make_free-gone.ensures.kept ∙ none_taken (is_of c.args.pair.key) 255 (pairs_of c.args.table.now) c.requires.other

pub returns-clause-kept : goal.returns-clause-kept
returns-clause-kept c = c.fill.ensures.pairs ∙ ap (λ (ps : List Pair). c.args.pair ∷ ps) c.make_free-gone.ensures.kept

pub returns-clause-gone : goal.returns-clause-gone
returns-clause-gone c = c.make_free-gone.ensures.gone
