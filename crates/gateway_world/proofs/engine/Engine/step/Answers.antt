-- A client closes its connection, or one that isn't open.
use Rattle.std.proofs.Common.{List, inl, inr, sym, subst, ap}
use Rattle.gateway_model.specs.declared.input.Output.{Output}
use Rattle.gateway_model.specs.Emissions.{emissions, given_up_in}
use Rattle.gateway_model.specs.declared.input.Happening.{Happening}
use Rattle.gateway_world.specs.Engines.{terms_in}
use Rattle.gateway_world.specs.Leading.{LeadsBy}
use Rattle.gateway_model.specs.Orders.{IsInOrder}
use Rattle.gateway_world.specs.Refusals.{MayBeRefused}
use Rattle.gateway_world.proofs.Acting.{close-lead, may-so, rotates-whole, then-taken}
use Rattle.gateway_world.proofs.engine.Engine.step.Goals as goal

pub returns-in-Open-clause-steps : goal.returns-in-Open-clause-steps
returns-in-Open-clause-steps g c =
    then-taken c.open.result _ _ c.open.ensures.leads
    (λ led. inl (subst (λ (h : Happening). LeadsBy (terms_in g.R.Relation.holds g.R.Relation.takes c.args.context) c.args.context.when (IsInOrder h)
    c.args.self.now c.args.outputs.now.items c.open.new.self c.open.new.outputs.items) (sym c.in-Open.is) led))

pub returns-in-Open-clause-refused : goal.returns-in-Open-clause-refused
returns-in-Open-clause-refused g c = may-so c.open.result c.args.happening (subst MayBeRefused (sym c.in-Open.is) tt)

pub returns-in-Close-clause-steps : goal.returns-in-Close-clause-steps
returns-in-Close-clause-steps g c =
    inl (subst (λ (h : Happening). LeadsBy (terms_in g.R.Relation.holds g.R.Relation.takes c.args.context) c.args.context.when (IsInOrder h)
    c.args.self.now c.args.outputs.now.items c.close.new.self c.args.outputs.now.items) (sym c.in-Close.is)
    (close-lead _ _ c.close.result c.in-Close.number c.args.self.now c.close.new.self c.args.outputs.now.items
    c.close.ensures.closed c.close.ensures.unknown))

pub returns-then-branch-3-clause-may : goal.returns-then-branch-3-clause-may
returns-then-branch-3-clause-may g c =
    inr (rotates-whole c.args.context.when c.args.self.now c.rotate.new.self c.args.outputs.now.items c.rotate.new.outputs.items
    (c.in_ok-rotate-in-Rotate.ensures.rotates c.if-branch-3.true))

pub returns-else-branch-3-clause-may : goal.returns-else-branch-3-clause-may
returns-else-branch-3-clause-may g c =
    inr (ap (λ (os : List (Output _)). given_up_in (emissions os)) (c.in_ok-rotate-in-Rotate.ensures.stays c.if-branch-3.false).outputs)
