use Rattle.std.proofs.Common.{◌≡◌, ℕ, ◌==◌, length, sym, arith}
use Rattle.std.proofs.lemmas.Bool.Decides.{Decides-eqb}
use Rattle.std.proofs.lemmas.List.Sums.{position_or_len_is}
use Rattle.device_server.proofs.rows.segment_len.Goals as goal

pub returns-then-b-eq47-clause-value : goal.returns-then-b-eq47-clause-value
returns-then-b-eq47-clause-value c =
    sym (position_or_len_is (λ (b : ℕ). b == 47) c.args.path.now c.each.i 0 (omega arith)
    c.each.invariant (λ _. (Decides-eqb _ 47).1 c.if-b-eq47.true))

pub returns-clause-value : goal.returns-clause-value
returns-clause-value c =
    let all : c.each.i ≡ length c.args.path.now = omega arith in
    sym (position_or_len_is (λ (b : ℕ). b == 47) c.args.path.now (length c.args.path.now) 0
    (omega arith) (λ k h. c.each.invariant k (omega arith)) (λ h. absurd (omega arith)))
