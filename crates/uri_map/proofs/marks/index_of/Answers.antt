use Rattle.std.proofs.Common.{◌≡◌, length, sym, ◌∙◌, arith}
use Rattle.std.proofs.lemmas.List.Sums.{position_or_len_is}
use Rattle.uri_map.specs.Marks.{ends}
use Rattle.uri_map.proofs.marks.index_of.Goals as goal

pub returns-then-ends-clause-value : goal.returns-then-ends-clause-value
returns-then-ends-clause-value c =
    sym (position_or_len_is (ends c.args.mark) c.args.text.now c.each.i 0 (omega arith) c.each.invariant (λ _. sym c.ends.ensures ∙ c.if-ends.true))

pub returns-clause-value : goal.returns-clause-value
returns-clause-value c =
    let all : c.each.i ≡ length c.args.text.now = omega arith in
    sym (position_or_len_is (ends c.args.mark) c.args.text.now (length c.args.text.now) 0 (omega arith) (λ k h. c.each.invariant k (omega arith)) (λ h. absurd (omega arith)))
