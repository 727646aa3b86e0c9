use Rattle.std.proofs.Common.{◌≡◌, ◌+◌, ◌<◌, ◌∷◌, length, drop, arith}
use Rattle.endpoint_table.specs.declared.turns.Turn.{Turn}
use Rattle.exchange_core.proofs.TickDue.{drop-at}
use Rattle.exchange_core.proofs.TickTurns.{room-step, going-step}
use Rattle.exchange_core.proofs.turns.note_turns.Goals as goal

pub each-preserved : goal.each-preserved
each-preserved c =
    let i = c.each.place in
    let ks = c.args.turns.now.items in
    let k : Turn = c.index-turn.result.now in
    let test = c.each-test.true in
    let end = c.len-place-end.ensures in
    let n = c.args.turns.now.ok.0 in
    let lt : i < length ks = omega (arith, test, end, n) in
    let left : drop i ks ≡ k ∷ drop (i + 1) ks = drop-at ks i k lt c.index-turn.ensures in
    let e = c.note_turn-next.ensures in
    record {
      room = room-step c.each.next c.note_turn-next.result k (drop (i + 1) ks)
          (drop i ks) left e.next 4294967295 c.each.invariant.room;
      going = going-step c.each.next c.note_turn-next.result k (drop (i + 1) ks)
          (drop i ks) left e.next c.each.exchanges.exchanges c.note_turn-next.new.exchanges.exchanges _ e.going
          c.each.invariant.going;
    }
