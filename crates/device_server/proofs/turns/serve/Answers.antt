use Rattle.std.proofs.Common.{arith}
use Rattle.demo_origin.specs.Origins.{device}
use Rattle.device_server.proofs.Going.{few, goes_further, goes_partly, goes_whole}
use Rattle.device_server.proofs.turns.serve.Goals as goal

pub returns-in-Err-clause-goes : goal.returns-in-Err-clause-goes
returns-in-Err-clause-goes g c =
    goes_partly g.H.Behaviour.relation c.args.turns c.each.number c.each.missed
    (device c.args.origin.now) (device c.each.origin) (device c.turn.new.origin)
    (g.C.Clock.told c.args.clock.now) (g.C.Clock.told c.each.clock)
    (g.C.Clock.told c.turn.new.clock) (g.L.Wire.came c.args.wire.now)
    (g.L.Wire.came c.each.wire) (g.L.Wire.came c.turn.new.wire)
    (g.L.Wire.sent c.args.wire.now) (g.L.Wire.sent c.each.wire)
    (g.L.Wire.sent c.turn.new.wire) c.each.invariant.1 (omega (arith, c.each-test.true))
    c.in-Err.ensures.same c.in-Err.ensures.quiet c.in-Err.ensures.late c.in-Err.ensures.lost

pub each-preserved : goal.each-preserved
each-preserved g c =
    let more = few c.in-Ok.turned in (
      c.turn.ensures.sound,
      goes_further g.H.Behaviour.relation c.each.number c.each.missed
          c.with_missed-missed.result c.in-Ok.turned (device c.args.origin.now)
          (device c.each.origin) (device c.turn.new.origin) (g.C.Clock.told c.args.clock.now)
          (g.C.Clock.told c.each.clock) (g.C.Clock.told c.turn.new.clock)
          (g.L.Wire.came c.args.wire.now) (g.L.Wire.came c.each.wire)
          (g.L.Wire.came c.turn.new.wire) (g.L.Wire.sent c.args.wire.now)
          (g.L.Wire.sent c.each.wire) (g.L.Wire.sent c.turn.new.wire) c.each.invariant.1
          c.in-Ok.ensures.goes_on c.with_missed-missed.ensures,
      omega (arith, more, c.with_missed-missed.ensures, c.each.invariant.2),
    )

pub returns-clause-goes : goal.returns-clause-goes
returns-clause-goes g c =
    goes_whole g.H.Behaviour.relation c.args.turns c.each.number c.each.missed
    (device c.args.origin.now) (device c.each.origin) (g.C.Clock.told c.args.clock.now)
    (g.C.Clock.told c.each.clock) (g.L.Wire.came c.args.wire.now) (g.L.Wire.came c.each.wire)
    (g.L.Wire.sent c.args.wire.now) (g.L.Wire.sent c.each.wire) c.each.invariant.1
    (omega (arith, c.each-test.false, c.each.auto.number-end))
