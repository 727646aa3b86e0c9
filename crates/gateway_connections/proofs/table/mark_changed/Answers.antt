-- The rows before the run and behind it are as they were marked; in it, one more is passed.
use Rattle.std.proofs.Common.{◌+◌, ◌<◌, ◌≤◌, ◌∙◌, min, length, inl, inr, refl, sym, arith}
use Rattle.std.proofs.lemmas.Bool.{cases_lt}
use Rattle.std.proofs.Math.Nat.{min-le_right, le-min}
use Rattle.gateway_connections.specs.Rows.{settled}
use Rattle.gateway_connections.proofs.Keeping.{each-one}
use Rattle.gateway_connections.proofs.Noting.{marked-before, marked-behind}
use Rattle.gateway_connections.proofs.table.mark_changed.Goals as goal

pub each-init : goal.each-init
each-init c = (sym (marked-before c.args.rows.now.items c.args.changed.first (λ i d lt less. c.requires.others i d lt (inl less))), refl)

pub each-preserved : goal.each-preserved
each-preserved c =
    let rows = c.args.rows.now in
    let test = c.each-test.true in
    let len = c.len.ensures in
    let least = c.min-end.ensures in
    let ok = rows.ok.0 in
    let le = min-le_right c.args.changed.end c.len.result in
    let lt : c.each.place < length rows.items = omega (arith, test, len, ok, least, le) in
    (each-one settled rows.items c.each.place c.each.rows.items c.index_mut.result.now c.mark.new.self lt c.each.invariant.0 c.index_mut.ensures.value c.mark.ensures, c.each.invariant.1)

pub returns : goal.returns
returns c =
    let rows = c.args.rows.now in
    let passed = c.each-test.false in
    let least = c.min-end.ensures in
    let len = c.len.ensures in
    let ok = rows.ok.0 in
    c.each.invariant.0 ∙ marked-behind rows.items c.each.place (λ i d lt le. c.requires.others i d lt (inr (elim (cases_lt i c.args.changed.end) [
      | inl before ↦
          let within : i + 1 ≤ min c.args.changed.end c.len.result = le-min (omega (arith, before)) (omega (arith, lt, len, ok)) in
          absurd (omega (arith, within, least, passed, le))
      | inr behind ↦ behind
    ])))
