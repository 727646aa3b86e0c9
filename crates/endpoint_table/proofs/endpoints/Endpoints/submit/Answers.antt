use Rattle.std.proofs.Common.{refl, sym, subst}
use Rattle.message_layer.specs.Prepared.{MaySubmit}
use Rattle.message_layer.specs.Values.{LinkValue}
use Rattle.endpoint_table.specs.Tables.{IsUnused}
use Rattle.endpoint_table.proofs.Drained.{drained-with}
use Rattle.endpoint_table.proofs.Links.{link-there, none-there, once-with}
use Rattle.endpoint_table.proofs.endpoints.Endpoints.submit.Goals as goal

pub submit_at-requires-clause-ready : goal.submit_at-requires-clause-ready
submit_at-requires-clause-ready c = λ e k.
    subst (λ (l : LinkValue). MaySubmit c.args.moment l c.args.submission)
    (link-there c.args.peer c.self.inside.rows.items c.in-Some.place _ e
    (rw (c.deref.ensures.value) at c.in-Some.ensures.some) k)
    (rw (← c.self.view_is) at c.requires.ready)

pub invariant_of-self : goal.invariant_of-self
invariant_of-self c = (
  once-with c.args.peer _ c.self.inside.rows.items c.submit_at.new.rows.items c.self.invariant.0
      (c.submit_at.ensures.links c.args.peer (rw (c.deref.ensures.value) at c.in-Some.ensures.some)),
  c.self.invariant.1,
  c.submit_at.ensures.dues,
  drained-with c.args.peer _ c.self.inside.rows.items c.submit_at.new.rows.items refl
      c.self.invariant.3
      (c.submit_at.ensures.links c.args.peer (rw (c.deref.ensures.value) at c.in-Some.ensures.some)),
)

pub submit_spare-requires-clause-ready : goal.submit_spare-requires-clause-ready
submit_spare-requires-clause-ready c =
    subst (λ (l : LinkValue). MaySubmit c.args.moment l c.args.submission)
    (none-there c.args.peer c.self.inside.rows.items _
    (rw (c.deref.ensures.value) at (c.in-None.ensures.none refl)))
    (rw (← c.self.view_is) at c.requires.ready)

pub invariant_of-self-in-None : goal.invariant_of-self-in-None
invariant_of-self-in-None c = (
  once-with c.args.peer _ c.self.inside.rows.items c.submit_spare.new.rows.items c.self.invariant.0
      (c.submit_spare.ensures.links (rw (c.deref.ensures.value) at (c.in-None.ensures.none refl))),
  subst IsUnused (sym c.submit_spare.ensures.spare) tt,
  c.submit_spare.ensures.dues,
  drained-with c.args.peer _ c.self.inside.rows.items c.submit_spare.new.rows.items refl
      c.self.invariant.3
      (c.submit_spare.ensures.links (rw (c.deref.ensures.value) at (c.in-None.ensures.none refl))),
)
