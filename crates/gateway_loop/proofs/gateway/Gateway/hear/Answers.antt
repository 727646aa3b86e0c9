-- What came in at the wire is an input, or is lost; or nothing came in.
use Rattle.std.proofs.Common.{refl, ap, ◌∙◌}
use Rattle.gateway_model.specs.Emissions.{emissions}
use Rattle.gateway_world.specs.Worlds.{with_memory}
use Rattle.gateway_world.proofs.Running.{takes-rules}
use Rattle.gateway_loop.proofs.Remembering.{serving-gives}
use Rattle.gateway_loop.proofs.Standing.{serving-at}
use Rattle.gateway_loop.proofs.Stepping.{counted, refused, taken}
use Rattle.gateway_loop.proofs.Taking.{serving-hears, serving-stays, serving-waits}
use Rattle.gateway_loop.proofs.gateway.Gateway.hear.Goals as goal

pub of-gateway-requires : goal.of-gateway-requires
of-gateway-requires g c =
    serving-waits g.R.Relation.holds g.R.Relation.takes g.S.Stream.written g.S.Stream.gave g.W.Wire.sent
    g.W.Wire.heard
    c.self.inside.world c.deref_mut.result.now.clients.places c.deref_mut.result.now.wire c.receive.new.self
    c.deref_mut.result.now.clients.told c.deref_mut.result.now.clients.told (serving-at g.R.Relation.holds g.R.Relation.takes g.S.Stream.written g.S.Stream.gave g.W.Wire.sent
    g.W.Wire.heard c.self.inside.world _ _ c.deref_mut.ensures.value c.self.invariant) c.in-Later.ensures.quiet
    c.in-Later.ensures.came refl

pub of-gateway-requires-in-Taken : goal.of-gateway-requires-in-Taken
of-gateway-requires-in-Taken g c =
    serving-hears g.R.Relation.holds g.R.Relation.takes g.S.Stream.written g.S.Stream.gave g.W.Wire.sent
    g.W.Wire.heard
    _ c.in-Taken.field-0 (emissions c.take_in.new.outputs.items)
    (with_memory c.in_ok-world.ensures.tried.memory c.self.inside.world) c.in_ok-world.field-0.world c.deref_mut.result.now.clients.places
    c.deliver.new.clients.places
    c.deref_mut.result.now.wire c.receive.new.self c.deliver.new.wire _ c.deref_mut.result.now.clients.told
    c.deliver.new.clients.told
    (serving-gives g.R.Relation.holds g.R.Relation.takes g.S.Stream.written g.S.Stream.gave g.W.Wire.sent
    g.W.Wire.heard c.in_ok-world.ensures.tried.memory c.self.inside.world _ _ _
    (serving-at g.R.Relation.holds g.R.Relation.takes g.S.Stream.written g.S.Stream.gave g.W.Wire.sent
    g.W.Wire.heard c.self.inside.world _ _ c.deref_mut.ensures.value c.self.invariant)) (taken _ _ c.in-Taken.is c.in_ok-world.ensures.tried.takes)
    (counted _ _ _ _ _ c.in-Taken.is c.in_ok-world.ensures.tried.opened) refl c.deliver.ensures.given
    c.in-From.ensures.quiet c.deliver.ensures.wire c.in-From.ensures.came c.deliver.ensures.quiet
    c.deliver.ensures.told

pub of-gateway-requires-in-Refused : goal.of-gateway-requires-in-Refused
of-gateway-requires-in-Refused g c =
    serving-stays g.R.Relation.holds g.R.Relation.takes g.S.Stream.written g.S.Stream.gave g.W.Wire.sent
    g.W.Wire.heard
    (with_memory c.in_ok-world.ensures.tried.memory c.self.inside.world) c.in_ok-world.field-0.world c.deref_mut.result.now.clients.places c.deref_mut.result.now.wire
    c.receive.new.self _ c.deref_mut.result.now.clients.told c.deref_mut.result.now.clients.told
    (serving-gives g.R.Relation.holds g.R.Relation.takes g.S.Stream.written g.S.Stream.gave g.W.Wire.sent
    g.W.Wire.heard c.in_ok-world.ensures.tried.memory c.self.inside.world _ _ _
    (serving-at g.R.Relation.holds g.R.Relation.takes g.S.Stream.written g.S.Stream.gave g.W.Wire.sent
    g.W.Wire.heard c.self.inside.world _ _ c.deref_mut.ensures.value c.self.invariant)) (refused _ c.in-Refused.is c.in_ok-world.ensures.tried.stays) c.in-From.ensures.quiet
    c.in-From.ensures.came refl

pub take_in-requires-clause-suits : goal.take_in-requires-clause-suits
take_in-requires-clause-suits g c = let s = rw (← c.self.view_is) at c.requires.suits in s

pub returns-in-Taken-clause-rules : goal.returns-in-Taken-clause-rules
returns-in-Taken-clause-rules g c =
    rw (← c.self.view_is)
    (ap (λ v. v.world.rules) c.of-gateway-in-Taken.ensures ∙ takes-rules g.R.Relation.holds g.R.Relation.takes _
    (with_memory c.in_ok-world.ensures.tried.memory c.self.inside.world) c.in_ok-world.field-0.world (emissions c.take_in.new.outputs.items)
    (taken _ _ c.in-Taken.is c.in_ok-world.ensures.tried.takes))

pub returns-in-Refused-clause-rules : goal.returns-in-Refused-clause-rules
returns-in-Refused-clause-rules g c = rw (← c.self.view_is)
    (ap (λ v. v.world.rules) c.of-gateway-in-Refused.ensures ∙ ap (λ w. w.rules) ((refused _ c.in-Refused.is c.in_ok-world.ensures.tried.stays)))
