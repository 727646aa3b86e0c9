use Rattle.std.proofs.Common.{rules, arith, refl}
use Rattle.transformers.specs.Keeps.{pair_of}
use Rattle.transformers.proofs.First.{absent_more, absent_all, parts_at}
use Rattle.transformers.proofs.bank.Bank.first_for.Goals as goal

pub returns-then-is_for-clause-some : goal.returns-then-is_for-clause-some
returns-then-is_for-clause-some g c =
    let parts = parts_at c.deref-s-items.result.now _ c.each.s-index c.s-item.result (omega arith) c.s-item.is c.deref-s-items.ensures.value in
    record { before = _; after = _; parts = parts; pair = search rules; none_before = c.each.invariant }

pub each-preserved : goal.each-preserved
each-preserved g c =
    absent_more pair_of c.deref-s-items.result.now c.each.s-index c.s-item.result _ (omega arith) c.s-item.is (λ e. let t = c.if-is_for.ensures.1 e in absurd (search rules)) c.each.invariant

pub returns-clause-none : goal.returns-clause-none
returns-clause-none g c =
    let none = absent_all pair_of c.deref-s-items.result.now _ c.each.s-index _ (omega arith) c.deref-s-items.ensures.value c.each.invariant in
    (λ _. none, λ _. refl)
