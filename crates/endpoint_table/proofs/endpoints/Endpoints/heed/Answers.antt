use Rattle.std.proofs.Common.{refl, subst, map}
use Rattle.message_layer.specs.Prepared.{MayFollow, MayHeed}
use Rattle.message_layer.specs.Values.{LinkValue}
use Rattle.endpoint_table.specs.Tables.{peer_link}
use Rattle.endpoint_table.proofs.Drained.{drained-with}
use Rattle.endpoint_table.proofs.Links.{link-there, once-with, unknown}
use Rattle.endpoint_table.proofs.endpoints.Endpoints.heed.Goals as goal

pub heed_at-requires-clause-ready : goal.heed_at-requires-clause-ready
heed_at-requires-clause-ready c = λ e k.
    subst (λ (l : LinkValue). MayHeed c.args.moment l c.args.heeding)
    (link-there c.args.peer.now c.self.inside.rows.items c.in-Some.place _ e
    (rw (c.deref.ensures.value) at c.in-Some.ensures.some) k)
    (rw (← c.self.view_is) at c.requires.ready)

pub heed_at-requires-clause-follows : goal.heed_at-requires-clause-follows
heed_at-requires-clause-follows c = λ e k.
    subst (λ (l : LinkValue). MayFollow c.args.moment l c.args.heeding c.args.more)
    (link-there c.args.peer.now c.self.inside.rows.items c.in-Some.place _ e
    (rw (c.deref.ensures.value) at c.in-Some.ensures.some) k)
    (rw (← c.self.view_is) at c.requires.follows)

pub invariant_of-self : goal.invariant_of-self
invariant_of-self c = (
  once-with c.args.peer.now _ c.self.inside.rows.items c.heed_at.new.rows.items c.self.invariant.0
      (c.heed_at.ensures.links c.args.peer.now (rw (c.deref.ensures.value) at c.in-Some.ensures.some)),
  c.self.invariant.1,
  c.heed_at.ensures.dues,
  drained-with c.args.peer.now _ c.self.inside.rows.items c.heed_at.new.rows.items refl
      c.self.invariant.3
      (c.heed_at.ensures.links c.args.peer.now (rw (c.deref.ensures.value) at c.in-Some.ensures.some)),
)

pub returns-in_default : goal.returns-in_default
returns-in_default c =
    absurd (unknown c.args.peer.now (map peer_link c.self.inside.rows.items)
    (rw (c.deref.ensures.value) at (c.in_default.ensures.none refl))
    (rw (← c.self.view_is) at c.requires.known))
