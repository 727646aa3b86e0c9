use Rattle.std.proofs.Common.{rules, ◌==◌}
use Rattle.std.proofs.lemmas.Iterator.Search.{any_from_yields_List}
use Rattle.std.proofs.lemmas.Iterator.Splits.{YieldsList-from_slice_split}
use Rattle.httparse.specs.Grammar.{trim_ows}
use Rattle.http_edge.specs.Lists.{is_other, has_other}
use Rattle.http_edge.proofs.lists.has_other.Goals as goal

pub returns : goal.returns
unfolding has_other
returns c =
    any_from_yields_List (λ part. is_other c.args.member.now (trim_ows part)) _ _ _ c.any.ensures.ran
    (YieldsList-from_slice_split _ (λ b. b == 44) c.args.list.now c.split.ensures.rest c.split.ensures.done c.split.ensures.closure (λ x r q k. search rules)) (λ x r q k. search rules)
