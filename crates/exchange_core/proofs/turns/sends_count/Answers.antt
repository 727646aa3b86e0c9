use Rattle.std.specs.Prelude.{if◌then◌else◌}
use Rattle.std.proofs.Common.{◌≡◌, ℕ, ◌+◌, ◌<◌, ◌≤◌, Bool, true, false, List, length, get_or, take, sym, ap, ◌∙◌, arith, length-append}
use Rattle.journal_book.specs.Entries.{Deed}
use Rattle.endpoint_table.specs.declared.turns.Turn.{Turn}
use Rattle.endpoint_table.specs.Turns.{deeds_of, turns_deeds}
use Rattle.exchange_core.proofs.TickTurns.{turns-take}
use Rattle.exchange_core.proofs.turns.sends_count.Goals.{then-sends, else-sends}
use Rattle.exchange_core.proofs.turns.sends_count.Goals as goal

-- one turn more
count-step : (ks : List Turn) (i : ℕ) (k : Turn) (n m sent : ℕ) → i < length ks → k ≡ get_or ks i k
    → n ≡ length (turns_deeds (take i ks)) → length (deeds_of k.peer k.ticking) ≡ sent → m ≡ n + sent
    → m ≡ length (turns_deeds (take (i + 1) ks))
count-step ks i k n m sent lt at is one more =
    let all : length (turns_deeds (take (i + 1) ks)) ≡ length (turns_deeds (take i ks)) + length (deeds_of k.peer k.ticking) =
    ap (λ (ds : List Deed). length ds) (turns-take ks i k lt at) ∙ length-append (turns_deeds (take i ks)) (deeds_of k.peer k.ticking) in
    omega (arith, is, one, more, all)

-- One datagram more, where the turn sends one.
each-so : (b : Bool) (ks : List Turn) (i : ℕ) (k : Turn) (n m : ℕ) → i < length ks → k ≡ get_or ks i k
    → n ≡ length (turns_deeds (take i ks)) → length (deeds_of k.peer k.ticking) ≡ (if b then 1 else 0)
    → m ≡ n + (if b then 1 else 0) → n ≤ i → (m ≤ i + 1) × (m ≡ length (turns_deeds (take (i + 1) ks)))
each-so true ks i k n m lt at is one more few = (omega (arith, more, few), count-step ks i k n m 1 lt at is one more)
each-so false ks i k n m lt at is one more few = (omega (arith, more, few), count-step ks i k n m 0 lt at is one more)

pub each-preserved : goal.each-preserved
each-preserved c =
    let ks : List Turn = c.args.turns.now.items in
    let before = c.each.invariant in
    let test = c.each-test.true in
    let end = c.len-place-end.ensures in
    let n = c.args.turns.now.ok.0 in
    let lt : c.each.place < length ks = omega (arith, test, end, n) in
    elim c.if-sends.branch [
      | then-sends w ↦
          let r = each-so true ks c.each.place c.index.result.now c.each.count c.if-sends.count lt c.index.ensures before.count
          (c.sends.ensures c.index.result.now.peer ∙ ap (λ (b : Bool). if b then 1 else 0) w.if-sends.true) w.count-is before.few in
          record { few = r.0; count = r.1 }
      | else-sends w ↦
          let same = w.count-is in
          let r = each-so false ks c.each.place c.index.result.now c.each.count c.if-sends.count lt c.index.ensures before.count
          (c.sends.ensures c.index.result.now.peer ∙ ap (λ (b : Bool). if b then 1 else 0) w.if-sends.false) (omega (arith, same)) before.few in
          record { few = r.0; count = r.1 }
    ]
