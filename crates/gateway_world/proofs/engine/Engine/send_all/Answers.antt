-- Each datagram goes out after those before it.
use Rattle.std.proofs.Common.{Option, None, refl, ap, subst, ◌∙◌, arith}
use Rattle.std.specs.Prelude.{option_map}
use Rattle.exchange_core.specs.declared.outgoing.Datagram.{Datagram}
use Rattle.exchange_core.specs.Taking.{IsSent}
use Rattle.exchange_core.specs.Values.{CoreValue, outgoing_of}
use Rattle.gateway_connections.specs.Inlets.{TableValue}
use Rattle.gateway_model.specs.declared.input.Output.TheVariants as Out
use Rattle.gateway_model.specs.Orders.{AreSends}
use Rattle.gateway_world.proofs.Lead.{leads-none, leads-then}
use Rattle.gateway_model.proofs.CallerLemmas.{sends-on}
use Rattle.gateway_world.proofs.Growth.{back-state}
use Rattle.gateway_world.proofs.Acting.{sends-lead, leads-core, shorter}
use Rattle.gateway_world.proofs.engine.Engine.send_all.Goals as goal

pub each-init : goal.each-init
each-init g c = record { leads = leads-none _ _ AreSends _ _ tt; state = refl; untaken = refl; table = refl; places = omega arith }

pub each-smaller : goal.each-smaller
each-smaller g c = shorter (outgoing_of c.in-Some.datagram) _ _ c.in-Some.ensures.0

pub each-preserved : goal.each-preserved
each-preserved g c = record {
  leads = leads-then _ _ AreSends AreSends AreSends _ _ _ _ _ _ sends-on c.each.invariant.leads
      (sends-lead _ _ c.each.self (record c.each.self { core = c.take_send.new.self }) c.each.outputs.items c.push.new.self.items
      (outgoing_of c.in-Some.datagram) (Out.Datagram c.in-Some.datagram) refl c.in-Some.ensures refl c.in_ok-push.ensures.items);
  state = ap (λ (v : CoreValue). v.state) c.in-Some.ensures.1 ∙ c.each.invariant.state;
  untaken = ap (λ (v : CoreValue). v.untaken) c.in-Some.ensures.1 ∙ c.each.invariant.untaken;
  table = c.each.invariant.table;
  places = (let a = c.each.invariant.places in let b = c.in_ok-push.ensures.capacity in omega (arith, a, b));
}

pub returns : goal.returns
returns g c =
    let none : IsSent None c.each.self.core c.take_send.new.self =
    subst (λ (o : Option Datagram). IsSent (option_map outgoing_of o) c.each.self.core c.take_send.new.self) c.in_default.is c.take_send.ensures in
    record {
      leads = leads-core _ _ AreSends _ _ _ c.each.self.core c.take_send.new.self _ none.1 c.each.invariant.leads;
      back = back-state c.args.self.now (record c.each.self { core = c.take_send.new.self })
          (ap (λ (v : CoreValue). v.state) none.1 ∙ c.each.invariant.state) (ap (λ (t : TableValue). t.marked) c.each.invariant.table);
      sent = record {
        state = ap (λ (v : CoreValue). v.state) none.1 ∙ c.each.invariant.state;
        untaken = ap (λ (v : CoreValue). v.untaken) none.1 ∙ c.each.invariant.untaken;
        unsent = ap (λ (v : CoreValue). v.unsent) none.1 ∙ none.0;
      };
      table = c.each.invariant.table;
      places = c.each.invariant.places;
      full = tt;
    }
