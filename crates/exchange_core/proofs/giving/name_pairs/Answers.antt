-- The last of one pair more.
use Rattle.std.proofs.Common.{List, ℕ, sym, ap, ◌++◌, ◌∙◌}
use Rattle.std.proofs.lemmas.List.{append-nil}
use Rattle.exchange_core.specs.Giving.{last_in, last_of}
use Rattle.exchange_core.proofs.Naming.{last-none, last-some, pair-step}
use Rattle.exchange_core.proofs.giving.name_pairs.Goals.{in-Some+in_ok-push, in_default}
use Rattle.exchange_core.proofs.giving.name_pairs.Goals as goal

pub each-preserved : goal.each-preserved
each-preserved c =
    let p = c.pair-item.result in
    let front : List ℕ = c.each.numbers.items in
    elim c.match-last.branch [
      | in-Some+in_ok-push w ↦
          pair-step front c.match-last.numbers.items _ c.args.pairs.now c.each.pair-index p c.each-test.true c.pair-item.is
          (ap (λ v. v.items) w.numbers-is ∙ w.in_ok-push.ensures.items
          ∙ ap (λ (ns : List ℕ). front ++ ns) (sym (last-some p.stored.list w.in-Some.last.now (sym (rw (c.list.ensures) at w.in-Some.ensures.value)))))
          c.each.invariant
      | in_default w ↦
          pair-step front c.match-last.numbers.items _ c.args.pairs.now c.each.pair-index p c.each-test.true c.pair-item.is
          (ap (λ v. v.items) w.numbers-is ∙ sym (append-nil front)
          ∙ ap (λ (ns : List ℕ). front ++ ns) (sym (last-none p.stored.list (sym (rw (c.list.ensures) at w.in_default.ensures.value)))))
          c.each.invariant
    ]
