use Rattle.exchange_core.proofs.Ordered.{conns-ordered}
use Rattle.exchange_core.proofs.Served.{idle-once}
use Rattle.exchange_core.proofs.core_state.Core.is_idle.Goals as goal

pub returns : goal.returns
returns g c =
    rw (← c.self.view_is)
    (idle-once _ _ _ _ c.is_idle.result c.args.conn c.self.invariant (rw (c.as_slice.ensures.value) at c.is_idle.ensures.idle)
    (rw (c.as_slice.ensures.value) at c.is_idle.ensures.other))

pub is_idle-requires : goal.is_idle-requires
is_idle-requires g c = rw (c.as_slice.ensures.value) (conns-ordered _ c.self.invariant.kept)
