use Rattle.std.proofs.Common.{rules, ◌≡◌, ◌==◌, length, sym, get_or, true, arith}
use Rattle.std.proofs.lemmas.List.Sums.{position_or_len_is}
use Rattle.status_page.specs.Views.{is_mark}
use Rattle.status_page.proofs.asked.query_start.Goals as goal

pub returns-then-b-eq63-clause-value : goal.returns-then-b-eq63-clause-value
returns-then-b-eq63-clause-value c =
    sym (position_or_len_is is_mark c.args.text.now c.each.i 0 (omega arith) c.each.invariant (λ _. search rules))

pub returns-clause-value : goal.returns-clause-value
returns-clause-value c =
    let all : c.each.i ≡ length c.args.text.now = omega arith in
    sym (position_or_len_is is_mark c.args.text.now (length c.args.text.now) 0 (omega arith) (λ k h. c.each.invariant k (omega arith)) (λ h. absurd (omega arith)))
