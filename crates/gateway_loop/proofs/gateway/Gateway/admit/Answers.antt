-- The client has a connection, or is turned away.
use Rattle.std.proofs.Common.{[], ◌∙◌, Some, ap, refl, sym, subst}
use Rattle.gateway_model.specs.declared.input.Happening.TheVariants as H
use Rattle.gateway_model.specs.Emissions.{emissions}
use Rattle.gateway_world.specs.Worlds.{with_memory}
use Rattle.gateway_world.proofs.Running.{takes-rules}
use Rattle.gateway_loop.specs.Clients.{unserved}
use Rattle.gateway_loop.specs.Delivery.{AreGiven}
use Rattle.gateway_loop.specs.Places.{ClientsValue}
use Rattle.gateway_loop.specs.Serving.{IsServing}
use Rattle.gateway_loop.proofs.Growing.{grown-none}
use Rattle.gateway_loop.proofs.Remembering.{serving-gives}
use Rattle.gateway_loop.proofs.Standing.{serving-at}
use Rattle.gateway_loop.proofs.Stepping.{counted, pop-last, refused, taken}
use Rattle.gateway_loop.proofs.Taking.{serving-admits, serving-stays, serving-turned}
use Rattle.gateway_loop.proofs.Tellings.{tells-from}
use Rattle.gateway_loop.proofs.gateway.Gateway.admit.Goals as goal

pub take_in-requires-clause-suits : goal.take_in-requires-clause-suits
take_in-requires-clause-suits g c = let s = rw (← c.self.view_is) at c.requires.suits in s

pub of-requires : goal.of-requires
of-requires g c =
    subst (λ (v : ClientsValue _). IsServing g.R.Relation.holds g.R.Relation.takes g.S.Stream.written g.S.Stream.gave g.W.Wire.sent g.W.Wire.heard c.self.inside.world v.places c.deref_mut.result.now.wire v.told) (sym c.in-Err.ensures.unchanged) (serving-at g.R.Relation.holds g.R.Relation.takes g.S.Stream.written g.S.Stream.gave g.W.Wire.sent
    g.W.Wire.heard c.self.inside.world _ _ c.deref_mut.ensures.value c.self.invariant)

pub of-requires-in-Taken-Some : goal.of-requires-in-Taken-Some
of-requires-in-Taken-Some g c =
    serving-admits g.R.Relation.holds g.R.Relation.takes g.S.Stream.written g.S.Stream.gave
    g.W.Wire.sent g.W.Wire.heard
    (record { moment = c.args.when.moment; word = c.args.when.word; happening = H.Open })
    c.in-Taken-Some.field-0 c.in-Taken-Some.field-0-0 (emissions c.take_in.new.outputs.items)
    (with_memory c.in_ok-world.ensures.tried.memory c.self.inside.world) c.in_ok-world.field-0.world c.deref_mut.result.now.clients.places c.push.new.self.places
    c.deliver.new.clients.places c.deref_mut.result.now.wire c.deliver.new.wire c.args.stream
    c.deref_mut.result.now.clients.told c.deliver.new.clients.told
    (serving-gives g.R.Relation.holds g.R.Relation.takes g.S.Stream.written g.S.Stream.gave g.W.Wire.sent
    g.W.Wire.heard c.in_ok-world.ensures.tried.memory c.self.inside.world _ _ _
    (serving-at g.R.Relation.holds g.R.Relation.takes g.S.Stream.written g.S.Stream.gave g.W.Wire.sent
    g.W.Wire.heard c.self.inside.world _ _ c.deref_mut.ensures.value c.self.invariant)) (taken _ _ c.in-Taken-Some.is c.in_ok-world.ensures.tried.takes)
    (counted _ _ _ _ _ c.in-Taken-Some.is c.in_ok-world.ensures.tried.opened) refl
    (rw (c.in-Taken-Some.is) at c.in-Taken-Some.field-0-is)
    (ap (λ (v : ClientsValue _). v.places) c.in-Ok.ensures.ok) c.deliver.ensures.given
    c.requires.written c.requires.gave c.deliver.ensures.wire c.deliver.ensures.quiet
    (tells-from (emissions c.take_in.new.outputs.items) c.deref_mut.result.now.clients.told c.push.new.self.told c.deliver.new.clients.told
    (ap (λ (v : ClientsValue _). v.told) c.in-Ok.ensures.ok) c.deliver.ensures.told)

pub of-requires-in-Taken-None : goal.of-requires-in-Taken-None
of-requires-in-Taken-None g c =
    let same = ap (λ (v : ClientsValue _). v.places) c.pop.ensures ∙ pop-last c.deref_mut.result.now.clients.places c.push.new.self.places (Some (unserved c.args.stream)) (ap (λ (v : ClientsValue _). v.places) c.in-Ok.ensures.ok) in
    serving-turned g.R.Relation.holds g.R.Relation.takes g.S.Stream.written g.S.Stream.gave
    g.W.Wire.sent g.W.Wire.heard
    (record { moment = c.args.when.moment; word = c.args.when.word; happening = H.Open })
    c.in-Taken-None.field-0 (emissions c.take_in.new.outputs.items)
    (with_memory c.in_ok-world.ensures.tried.memory c.self.inside.world) c.in_ok-world.field-0.world c.deref_mut.result.now.clients.places
    c.deliver-in-Taken-None.new.clients.places c.deref_mut.result.now.wire c.deliver-in-Taken-None.new.wire
    c.deref_mut.result.now.clients.told c.deliver-in-Taken-None.new.clients.told
    (serving-gives g.R.Relation.holds g.R.Relation.takes g.S.Stream.written g.S.Stream.gave g.W.Wire.sent
    g.W.Wire.heard c.in_ok-world.ensures.tried.memory c.self.inside.world _ _ _
    (serving-at g.R.Relation.holds g.R.Relation.takes g.S.Stream.written g.S.Stream.gave g.W.Wire.sent
    g.W.Wire.heard c.self.inside.world _ _ c.deref_mut.ensures.value c.self.invariant)) (taken _ _ c.in-Taken-None.is c.in_ok-world.ensures.tried.takes)
    (counted _ _ _ _ _ c.in-Taken-None.is c.in_ok-world.ensures.tried.opened) refl
    (rw (c.in-Taken-None.is) at c.in-Taken-None.field-0-is)
    (subst (λ ps. AreGiven (emissions c.take_in.new.outputs.items) ps c.deliver-in-Taken-None.new.clients.places) same c.deliver-in-Taken-None.ensures.given)
    c.deliver-in-Taken-None.ensures.wire c.deliver-in-Taken-None.ensures.quiet
    (tells-from (emissions c.take_in.new.outputs.items) c.deref_mut.result.now.clients.told c.pop.new.self.told c.deliver-in-Taken-None.new.clients.told
    (ap (λ (v : ClientsValue _). v.told) c.pop.ensures ∙ ap (λ (v : ClientsValue _). v.told) c.in-Ok.ensures.ok) c.deliver-in-Taken-None.ensures.told)

pub of-requires-in-Refused : goal.of-requires-in-Refused
of-requires-in-Refused g c =
    let same = ap (λ (v : ClientsValue _). v.places) c.pop-in-Refused.ensures ∙ pop-last c.deref_mut.result.now.clients.places c.push.new.self.places (Some (unserved c.args.stream)) (ap (λ (v : ClientsValue _). v.places) c.in-Ok.ensures.ok) in
    subst (λ ps. IsServing g.R.Relation.holds g.R.Relation.takes g.S.Stream.written g.S.Stream.gave g.W.Wire.sent g.W.Wire.heard c.in_ok-world.field-0.world ps c.deref_mut.result.now.wire c.pop-in-Refused.new.self.told) (sym same)
    (serving-stays g.R.Relation.holds g.R.Relation.takes g.S.Stream.written g.S.Stream.gave g.W.Wire.sent g.W.Wire.heard
    (with_memory c.in_ok-world.ensures.tried.memory c.self.inside.world) c.in_ok-world.field-0.world c.deref_mut.result.now.clients.places c.deref_mut.result.now.wire
    c.deref_mut.result.now.wire [] c.deref_mut.result.now.clients.told c.pop-in-Refused.new.self.told
    (serving-gives g.R.Relation.holds g.R.Relation.takes g.S.Stream.written g.S.Stream.gave g.W.Wire.sent
    g.W.Wire.heard c.in_ok-world.ensures.tried.memory c.self.inside.world _ _ _
    (serving-at g.R.Relation.holds g.R.Relation.takes g.S.Stream.written g.S.Stream.gave g.W.Wire.sent
    g.W.Wire.heard c.self.inside.world _ _ c.deref_mut.ensures.value c.self.invariant)) (refused _ c.in-Refused.is c.in_ok-world.ensures.tried.stays) (grown-none _)
    (grown-none _)
    (ap (λ (v : ClientsValue _). v.told) c.pop-in-Refused.ensures ∙ ap (λ (v : ClientsValue _). v.told) c.in-Ok.ensures.ok))

pub returns-in-Taken-Some : goal.returns-in-Taken-Some
returns-in-Taken-Some g c = record {
  rules = rw (← c.self.view_is) (ap (λ v. v.world.rules) c.of-in-Taken-Some.ensures
      ∙ takes-rules g.R.Relation.holds g.R.Relation.takes
      (record { moment = c.args.when.moment; word = c.args.when.word; happening = H.Open })
      (with_memory c.in_ok-world.ensures.tried.memory c.self.inside.world) c.in_ok-world.field-0.world (emissions c.take_in.new.outputs.items)
      (taken _ _ c.in-Taken-Some.is c.in_ok-world.ensures.tried.takes));
}

pub returns-in-Taken-None : goal.returns-in-Taken-None
returns-in-Taken-None g c = record {
  rules = rw (← c.self.view_is) (ap (λ v. v.world.rules) c.of-in-Taken-None.ensures
      ∙ takes-rules g.R.Relation.holds g.R.Relation.takes
      (record { moment = c.args.when.moment; word = c.args.when.word; happening = H.Open })
      (with_memory c.in_ok-world.ensures.tried.memory c.self.inside.world) c.in_ok-world.field-0.world (emissions c.take_in.new.outputs.items)
      (taken _ _ c.in-Taken-None.is c.in_ok-world.ensures.tried.takes));
}

pub returns-in-Refused : goal.returns-in-Refused
returns-in-Refused g c = record {
  rules = rw (← c.self.view_is) (ap (λ v. v.world.rules) c.of-in-Refused.ensures ∙ ap (λ w. w.rules) ((refused _ c.in-Refused.is c.in_ok-world.ensures.tried.stays)));
}
