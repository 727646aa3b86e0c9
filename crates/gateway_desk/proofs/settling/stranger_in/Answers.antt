-- One pass after the other is justified.
use Rattle.std.proofs.Common.{arith, subst}
use Rattle.std.specs.List.{All}
use Rattle.std.proofs.lemmas.List.{take_all}
use Rattle.std.proofs.lemmas.List.Elements.{All-more}
use Rattle.gateway_desk.specs.Settled.{IsJustified}
use Rattle.gateway_desk.proofs.settling.stranger_in.Goals as goal

pub each-preserved : goal.each-preserved
each-preserved g c =
    let h = c.args.journal.now.entries in
    All-more (IsJustified h) c.args.passes.now c.each.pass-index c.pass-item.result c.each-test.true c.each.invariant
    (subst (IsJustified h) c.pass-item.is (c.in_ok-number.ensures.none c.in_default.is))

pub returns-clause-none : goal.returns-clause-none
returns-clause-none g c e =
    let whole = take_all c.each.pass-index c.args.passes.now (omega (arith, c.each-test.false)) in
    subst (All (IsJustified c.args.journal.now.entries)) whole c.each.invariant
