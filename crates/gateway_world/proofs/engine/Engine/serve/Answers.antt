-- What is next is asked after what was asked before.
use Rattle.std.proofs.Common.{Bool, subst, arith}
use Rattle.gateway_world.specs.Engines.{terms_in, ServesNext}
use Rattle.gateway_world.specs.Leading.{LeadsBy}
use Rattle.gateway_model.specs.Orders.{AreFor}
use Rattle.gateway_world.proofs.Acting.{serves-lead}
use Rattle.gateway_world.proofs.Answering.{still-told}
use Rattle.gateway_world.proofs.Growth.{back-then}
use Rattle.gateway_world.proofs.Lead.{leads-then}
use Rattle.gateway_model.proofs.CallerLemmas.{for-on}
use Rattle.gateway_world.proofs.Quiet.{waits-then}
use Rattle.gateway_world.proofs.engine.Engine.serve.Goals as goal

pub each-preserved : goal.each-preserved
each-preserved g c = record {
  leads = leads-then _ _ (AreFor c.args.number) (AreFor c.args.number) (AreFor c.args.number) _ _ _ _ _ _ (for-on c.args.number)
      c.each.invariant.leads
      (subst (λ (b : Bool). LeadsBy (terms_in g.R.Relation.holds g.R.Relation.takes c.args.context) c.args.context.when (ServesNext b c.args.number)
      c.each.self c.each.outputs.items c.serve_next.new.self c.serve_next.new.outputs.items) c.if-branch.true c.in_ok-serve_next.ensures.leads);
  back = back-then _ _ _ c.each.invariant.back c.in_ok-serve_next.ensures.back;
  waits = waits-then _ _ _ c.each.invariant.waits c.in_ok-serve_next.ensures.waits;
  places = (let a = c.each.invariant.places in let b = c.in_ok-serve_next.ensures.places in omega (arith, a, b));
}

pub returns-clause-leads : goal.returns-clause-leads
returns-clause-leads g c =
    serves-lead _ _ c.args.number c.args.self.now c.each.self c.serve_next.new.self c.args.outputs.now.items c.each.outputs.items
    c.serve_next.new.outputs.items c.each.invariant.leads
    (subst (λ (b : Bool). LeadsBy (terms_in g.R.Relation.holds g.R.Relation.takes c.args.context) c.args.context.when (ServesNext b c.args.number)
    c.each.self c.each.outputs.items c.serve_next.new.self c.serve_next.new.outputs.items) c.if-branch.false c.in_ok-serve_next.ensures.leads)

pub serve_next-requires-clause-told : goal.serve_next-requires-clause-told
serve_next-requires-clause-told g c = still-told c.args.number c.args.self.now.core c.each.self.core c.requires.told c.each.invariant.waits
