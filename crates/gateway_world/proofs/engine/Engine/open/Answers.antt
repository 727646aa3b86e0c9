-- A connection is opened, or its client is turned away; or memory is refused, and nothing is done.
use Rattle.std.proofs.Common.{List, ◌∷◌, [], ◌++◌, map, inl, inr, refl, sym, ap, ◌∙◌}
use Rattle.gateway_connections.specs.Inlets.{Inlet, fresh}
use Rattle.gateway_world.specs.Engines.{inlet_number}
use Rattle.exchange_core.specs.Calls.{now}
use Rattle.gateway_world.proofs.Acting.{opens-lead, turns-lead}
use Rattle.gateway_world.proofs.Asking.{above}
use Rattle.gateway_world.proofs.Quiet.{opened-waits, still-drained}
use Rattle.gateway_world.proofs.engine.Engine.open.Goals as goal

pub insert-requires-clause-above : goal.insert-requires-clause-above
insert-requires-clause-above g c =
    let same = c.make_room.ensures in
    above c.in-Ok-open.number c.make_room.new.self c.args.self.now.core.state.conns
    (ap (map inlet_number) same.current ∙ c.requires.ready.numbers)
    (same.marked ∙ (c.requires.ready.marked ∙ sym same.current)) c.in-Ok-open.ensures.above

pub returns-in-Ok-open-clause-leads : goal.returns-in-Ok-open-clause-leads
returns-in-Ok-open-clause-leads g c =
    opens-lead _ _ c.in-Ok-open.number c.args.self.now (record c.args.self.now { core = c.open.new.self; table = c.insert.new.self })
    c.args.outputs.now.items c.in-Ok-open.ensures.opens
    (c.insert.ensures.opened ∙ ap (λ (xs : List Inlet). xs ++ fresh c.in-Ok-open.number ∷ []) c.make_room.ensures.current)

pub returns-in-Err-Full-clause-leads : goal.returns-in-Err-Full-clause-leads
returns-in-Err-Full-clause-leads g c =
    turns-lead _ _ c.args.self.now (record c.args.self.now { core = c.open.new.self; table = c.make_room.new.self }) c.args.outputs.now.items
    c.tell_turned.new.outputs.items (inl (rw (c.in-Err-Full.field-0-is) at c.in-Err-Full.ensures.opens)) c.make_room.ensures.current
    c.in_ok-tell_turned-in-Err-Full.ensures.told

pub returns-in-Err-Sealed-clause-leads : goal.returns-in-Err-Sealed-clause-leads
returns-in-Err-Sealed-clause-leads g c =
    turns-lead _ _ c.args.self.now (record c.args.self.now { core = c.open.new.self; table = c.make_room.new.self }) c.args.outputs.now.items
    c.tell_turned-in-Err-Sealed.new.outputs.items (inr (rw (c.in-Err-Sealed.field-0-is) at c.in-Err-Sealed.ensures.opens))
    c.make_room.ensures.current c.in_ok-tell_turned-in-Err-Sealed.ensures.told

pub returns-in_default-clause-stays : goal.returns-in_default-clause-stays
returns-in_default-clause-stays g c = λ r. record {
  core = refl;
  current = c.make_room.ensures.current;
  marked = c.make_room.ensures.marked;
  outputs = refl;
}

pub returns-in-Err-Sealed-clause-drained : goal.returns-in-Err-Sealed-clause-drained
returns-in-Err-Sealed-clause-drained g c =
    still-drained c.args.self.now.core c.open.new.self
    (opened-waits (now c.args.self.now.core.state.moment c.args.context.when.moment) c.args.self.now.core c.open.new.self
    (rw (c.in-Err-Sealed.field-0-is) at c.in-Err-Sealed.ensures.opens).0) c.requires.drained
