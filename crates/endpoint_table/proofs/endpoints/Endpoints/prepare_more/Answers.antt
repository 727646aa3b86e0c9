use Rattle.std.proofs.Common.{refl, subst, map}
use Rattle.std.specs.Prelude.{vec_capacity, vec_len}
use Rattle.message_layer.specs.Prepared.{MayHeed}
use Rattle.message_layer.specs.Values.{LinkValue}
use Rattle.endpoint_table.specs.Places.{IsFirstAt}
use Rattle.endpoint_table.specs.Tables.{peer_link, spare_room}
use Rattle.endpoint_table.proofs.Links.{link-there, unknown}
use Rattle.endpoint_table.proofs.endpoints.Endpoints.prepare_more.Goals as goal

pub prepare_more_at-requires-clause-ready : goal.prepare_more_at-requires-clause-ready
prepare_more_at-requires-clause-ready c = λ e k.
    subst (λ (l : LinkValue). MayHeed c.args.moment l c.args.heeding.now)
    (link-there c.args.peer.now c.self.inside.rows.items c.in-Some.place _ e
    (rw (c.deref.ensures.value) at c.in-Some.ensures.some) (rw (c.deref-in-Some.ensures.value) at k))
    (rw (← c.self.view_is) at c.requires.ready)

pub returns-clause-ok : goal.returns-clause-ok
returns-clause-ok c =
    let t = c.self.inside in
    let first : IsFirstAt c.args.peer.now (map peer_link c.deref-in-Some.result.now) c.in-Some.place =
    rw (c.deref-in-Some.ensures.value) (rw (c.deref.ensures.value) at c.in-Some.ensures.some) in
    rw (← c.self.view_is) (rw (c.deref-in-Some.ensures.value) at (c.prepare_more_at.ensures.ok c.args.peer.now
    (spare_room (vec_len t.rows) (vec_capacity t.rows) (vec_capacity t.dues) t.spare) first))

pub returns-clause-fault : goal.returns-clause-fault
returns-clause-fault c =
    let first : IsFirstAt c.args.peer.now (map peer_link c.deref-in-Some.result.now) c.in-Some.place =
    rw (c.deref-in-Some.ensures.value) (rw (c.deref.ensures.value) at c.in-Some.ensures.some) in
    rw (← c.self.view_is) (rw (c.deref-in-Some.ensures.value) at (c.prepare_more_at.ensures.fault c.args.peer.now first))

pub unreachable-requires : goal.unreachable-requires
unreachable-requires c =
    unknown c.args.peer.now (map peer_link c.self.inside.rows.items)
    (rw (c.deref.ensures.value) at (c.in-None.ensures.none refl))
    (rw (← c.self.view_is) at c.requires.known)
