use Rattle.std.proofs.Common.{◌≡◌, [], ◌∷◌, List, length, refl, subst, arith}
use Rattle.endpoint_table.specs.declared.turns.Turn.{Turn}
use Rattle.endpoint_table.proofs.TickedDue.{all-left, left-none, once-left, turn-done, turn-ready, AreLeft}
use Rattle.endpoint_table.proofs.turns.tick_due.Goals as goal

no-turns : (xs : List Turn) → length xs ≡ 0 → xs ≡ []
no-turns [] e = refl
no-turns (x ∷ xs) e = absurd (omega (arith, e))

pub each-init : goal.each-init
each-init c = record {
  left = all-left c.args.moment c.args.gone.now c.args.rows.now.items c.args.turns.items
      c.requires.none c.requires.drained c.requires.ready;
  dues = c.requires.dues;
}

pub tick_turn-requires-clause-once : goal.tick_turn-requires-clause-once
tick_turn-requires-clause-once c =
    once-left c.args.moment c.args.gone.now c.each.rows.items c.args.rows.now.items
    c.each.turns.items c.each.invariant.left c.requires.once

pub tick_turn-requires-clause-ready : goal.tick_turn-requires-clause-ready
tick_turn-requires-clause-ready c =
    let t = c.args.moment in
    let gone = c.args.gone.now in
    let rest = c.pop_front.new.self.items in
    turn-ready t gone c.each.rows.items c.args.rows.now.items c.in-Some.turn rest c.requires.once
    (subst (AreLeft t gone c.each.rows.items c.args.rows.now.items) c.in-Some.ensures.items
    c.each.invariant.left)

pub each-preserved : goal.each-preserved
each-preserved c =
    let t = c.args.moment in
    let gone = c.args.gone.now in
    let rest = c.pop_front.new.self.items in
    record {
      left = turn-done t gone c.each.rows.items c.args.rows.now.items c.in-Some.turn rest
          c.requires.once
          (subst (AreLeft t gone c.each.rows.items c.args.rows.now.items) c.in-Some.ensures.items
          c.each.invariant.left)
          c.tick_turn.new.rows.items c.tick_turn.ensures.row;
      dues = c.tick_turn.ensures.dues;
    }

pub returns-clause-links : goal.returns-clause-links
returns-clause-links c =
    let gone = c.in_default.ensures.cases.0 in
    let len = c.each.turns.ok.0 in
    let none = no-turns c.each.turns.items (omega (arith, gone, len)) in
    left-none c.args.moment c.args.gone.now c.each.rows.items c.args.rows.now.items
    (subst (AreLeft c.args.moment c.args.gone.now c.each.rows.items c.args.rows.now.items) none
    c.each.invariant.left)
