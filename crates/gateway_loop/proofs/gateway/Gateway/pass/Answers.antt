-- What brings nothing leaves the connections served.
use Rattle.std.proofs.Common.{[], refl, ap, ◌∙◌}
use Rattle.gateway_model.specs.Emissions.{emissions}
use Rattle.gateway_world.specs.Worlds.{with_memory}
use Rattle.gateway_world.proofs.Running.{takes-rules}
use Rattle.gateway_loop.proofs.Growing.{grown-none}
use Rattle.gateway_loop.proofs.Remembering.{serving-gives}
use Rattle.gateway_loop.proofs.Standing.{serving-at}
use Rattle.gateway_loop.proofs.Stepping.{bare-quiet, counted, refused, taken}
use Rattle.gateway_loop.proofs.Taking.{serving-passes, serving-stays}
use Rattle.gateway_loop.proofs.gateway.Gateway.pass.Goals as goal

pub take_in-requires-clause-suits : goal.take_in-requires-clause-suits
take_in-requires-clause-suits g c = let s = rw (← c.self.view_is) at c.requires.suits in s

pub take_in-requires-clause-brings : goal.take_in-requires-clause-brings
take_in-requires-clause-brings g c = bare-quiet c.args.happening c.requires.bare

pub of-gateway-requires : goal.of-gateway-requires
of-gateway-requires g c =
    serving-passes g.R.Relation.holds g.R.Relation.takes g.S.Stream.written g.S.Stream.gave
    g.W.Wire.sent g.W.Wire.heard
    (record { moment = c.args.when.moment; word = c.args.when.word; happening = c.args.happening })
    c.in-Taken.field-0 (emissions c.take_in.new.outputs.items)
    (with_memory c.in_ok-world.ensures.tried.memory c.self.inside.world) c.in_ok-world.field-0.world c.deref_mut.result.now.clients.places
    c.deliver.new.clients.places c.deref_mut.result.now.wire c.deliver.new.wire
    c.deref_mut.result.now.clients.told c.deliver.new.clients.told
    (serving-gives g.R.Relation.holds g.R.Relation.takes g.S.Stream.written g.S.Stream.gave g.W.Wire.sent
    g.W.Wire.heard c.in_ok-world.ensures.tried.memory c.self.inside.world _ _ _
    (serving-at g.R.Relation.holds g.R.Relation.takes g.S.Stream.written g.S.Stream.gave g.W.Wire.sent
    g.W.Wire.heard c.self.inside.world _ _ c.deref_mut.ensures.value c.self.invariant)) (taken _ _ c.in-Taken.is c.in_ok-world.ensures.tried.takes)
    (counted _ _ _ _ _ c.in-Taken.is c.in_ok-world.ensures.tried.opened) c.requires.bare
    c.deliver.ensures.given c.deliver.ensures.wire c.deliver.ensures.quiet c.deliver.ensures.told

pub of-gateway-requires-in-Refused : goal.of-gateway-requires-in-Refused
of-gateway-requires-in-Refused g c =
    serving-stays g.R.Relation.holds g.R.Relation.takes g.S.Stream.written g.S.Stream.gave g.W.Wire.sent
    g.W.Wire.heard
    (with_memory c.in_ok-world.ensures.tried.memory c.self.inside.world) c.in_ok-world.field-0.world c.deref_mut.result.now.clients.places c.deref_mut.result.now.wire
    c.deref_mut.result.now.wire [] c.deref_mut.result.now.clients.told c.deref_mut.result.now.clients.told
    (serving-gives g.R.Relation.holds g.R.Relation.takes g.S.Stream.written g.S.Stream.gave g.W.Wire.sent
    g.W.Wire.heard c.in_ok-world.ensures.tried.memory c.self.inside.world _ _ _
    (serving-at g.R.Relation.holds g.R.Relation.takes g.S.Stream.written g.S.Stream.gave g.W.Wire.sent
    g.W.Wire.heard c.self.inside.world _ _ c.deref_mut.ensures.value c.self.invariant)) (refused _ c.in-Refused.is c.in_ok-world.ensures.tried.stays) (grown-none _)
    (grown-none _) refl

pub returns-in-Taken : goal.returns-in-Taken
returns-in-Taken g c = record {
  rules = rw (← c.self.view_is) (ap (λ v. v.world.rules) c.of-gateway.ensures
      ∙ takes-rules g.R.Relation.holds g.R.Relation.takes
      (record { moment = c.args.when.moment; word = c.args.when.word; happening = c.args.happening })
      (with_memory c.in_ok-world.ensures.tried.memory c.self.inside.world) c.in_ok-world.field-0.world (emissions c.take_in.new.outputs.items)
      (taken _ _ c.in-Taken.is c.in_ok-world.ensures.tried.takes));
}

pub returns-in-Refused : goal.returns-in-Refused
returns-in-Refused g c = record {
  rules = rw (← c.self.view_is) (ap (λ v. v.world.rules) c.of-gateway-in-Refused.ensures ∙ ap (λ w. w.rules) ((refused _ c.in-Refused.is c.in_ok-world.ensures.tried.stays)));
}
