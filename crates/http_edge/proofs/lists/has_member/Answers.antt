use Rattle.std.proofs.Common.{rules, ◌==◌}
use Rattle.std.proofs.lemmas.Iterator.Search.{any_from_yields_List}
use Rattle.std.proofs.lemmas.Iterator.Splits.{YieldsList-from_slice_split}
use Rattle.httparse.specs.Grammar.{trim_ows}
use Rattle.http_edge.specs.Lists.{same_name, has_member}
use Rattle.http_edge.proofs.lists.has_member.Goals as goal

pub returns : goal.returns
unfolding has_member
returns c =
    any_from_yields_List (λ part. same_name (trim_ows part) c.args.member.now) _ _ _ c.any.ensures.ran
    (YieldsList-from_slice_split _ (λ b. b == 44) c.args.list.now c.split.ensures.rest c.split.ensures.done c.split.ensures.closure (λ x r q k. search rules)) (λ x r q k. search rules)
