use Rattle.std.proofs.Common.{refl, map}
use Rattle.endpoint_table.specs.Places.{IsFirstAt}
use Rattle.endpoint_table.specs.Tables.{peer_link}
use Rattle.endpoint_table.proofs.Links.{unknown}
use Rattle.endpoint_table.proofs.endpoints.Endpoints.check.Goals as goal

pub returns : goal.returns
returns c =
    let first : IsFirstAt c.args.peer.now (map peer_link c.deref-in-Some.result.now) c.in-Some.place =
    rw (c.deref-in-Some.ensures.value) (rw (c.deref.ensures.value) at c.in-Some.ensures.some) in
    rw (← c.self.view_is) (rw (c.deref-in-Some.ensures.value) at (c.check_at.ensures c.args.peer.now first))

pub unreachable-requires : goal.unreachable-requires
unreachable-requires c =
    unknown c.args.peer.now (map peer_link c.self.inside.rows.items)
    (rw (c.deref.ensures.value) at (c.in-None.ensures.none refl))
    (rw (← c.self.view_is) at c.requires.known)
