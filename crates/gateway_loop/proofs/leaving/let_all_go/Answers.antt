-- One more segment left, or none.
use Rattle.std.proofs.Common.{refl, sym, subst}
use Rattle.gateway_world.specs.Worlds.{memory_of}
use Rattle.gateway_loop.specs.Gateways.{IsShorter}
use Rattle.gateway_loop.proofs.Remembering.{shorter-given, some-holds}
use Rattle.gateway_loop.proofs.leaving.let_all_go.Goals as goal

pub each-init : goal.each-init
each-init g c = (memory_of c.args.world.now, refl)

pub each-preserved : goal.each-preserved
each-preserved g c =
    shorter-given _ c.args.world.now c.each.world c.give.new.self
    c.each.invariant (some-holds _ _ _ c.in-Ok-Some.field-0-is c.in-Ok-Some.ensures.given)

pub returns-in-Ok-None : goal.returns-in-Ok-None
returns-in-Ok-None g c =
    subst (IsShorter c.args.world.now) (sym (c.in-Ok-None.ensures.none c.in-Ok-None.field-0-is).0) c.each.invariant

pub returns-in-Err : goal.returns-in-Err
returns-in-Err g c = subst (IsShorter c.args.world.now) (sym c.in-Err.ensures.memory) c.each.invariant
