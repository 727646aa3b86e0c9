use Rattle.std.proofs.Common.{◌≡◌, ℕ, false, Option, refl, sym, ap, subst, ◌∙◌}
use Rattle.std.specs.Prelude.{vec_capacity}
use Rattle.std.proofs.lemmas.List.{get_or-set_same, get_or_default}
use Rattle.std.proofs.lemmas.Option.{slice_get-get_or}
use Rattle.message_layer.specs.Calls.{is_among}
use Rattle.message_layer.specs.Prepared.{IsTicking}
use Rattle.exchange_model.specs.Calls.{link_due}
use Rattle.exchange_model.specs.Due.{timer}
use Rattle.exchange_model.specs.Entering.{link_after}
use Rattle.endpoint_table.specs.declared.endpoint.Endpoint.{Endpoint}
use Rattle.endpoint_table.specs.Dues.{put, removed}
use Rattle.endpoint_table.specs.Tables.{peer_link}
use Rattle.endpoint_table.proofs.Deeds.{timer-rests}
use Rattle.endpoint_table.proofs.Timers.{dues-set, dues-stay, got-is, in-order, place-for, was-there}
use Rattle.endpoint_table.proofs.turns.tick_at.Goals as goal

pub returns-then-not-is_due-clause-dues : goal.returns-then-not-is_due-clause-dues
returns-then-not-is_due-clause-dues c =
    let t = c.args.moment in
    let f = link_after t (is_among c.args.gone.now) in
    let xs = c.args.rows.now.items in
    let i = c.args.place in
    let x = c.index_mut.result.now in
    let at : c.index.result.now ≡ x =
    c.index.ensures ∙ (get_or_default xs i c.index.result.now x c.requires.place
    ∙ sym c.index_mut.ensures.value) in
    let rests : link_due t (peer_link x) ≡ false =
    ap (λ (e : Endpoint). link_due t (peer_link e)) (sym at)
    ∙ (sym c.is_due.ensures ∙ c.if-not-is_due.true) in
    dues-stay xs c.args.dues.now.items (vec_capacity c.args.dues.now) c.requires.dues i
    c.tick_endpoint.new.endpoint x
    (ap timer c.tick_endpoint.ensures
    ∙ (timer-rests t (is_among c.args.gone.now) (peer_link x) rests
    ∙ ap (λ (e : Endpoint). timer (peer_link e)) c.index_mut.ensures.value))

pub tick_endpoint-requires-2-clause-ready : goal.tick_endpoint-requires-2-clause-ready
tick_endpoint-requires-2-clause-ready c =
    subst (λ (v : Endpoint). IsTicking c.args.moment c.args.gone.now v.link c.args.ticking)
    (sym c.index_mut-2.ensures.value)
    (c.requires.ready _ (slice_get-get_or c.args.rows.now.items c.args.place
    c.index_mut-2.result.now c.requires.place))

pub set_due-requires-clause-ordered : goal.set_due-requires-clause-ordered
set_due-requires-clause-ordered c =
    in-order c.args.rows.now.items c.args.dues.now.items (vec_capacity c.args.dues.now)
    c.requires.dues

pub set_due-requires-clause-was : goal.set_due-requires-clause-was
set_due-requires-clause-was c =
    was-there c.args.rows.now.items c.args.dues.now.items (vec_capacity c.args.dues.now)
    c.requires.dues c.args.place c.index-2.result.now _ c.requires.place c.index-2.ensures
    c.next_due-before.ensures

pub set_due-requires-clause-room : goal.set_due-requires-clause-room
set_due-requires-clause-room c = λ m e.
    place-for c.args.rows.now.items c.args.dues.now.items (vec_capacity c.args.dues.now)
    c.requires.dues c.args.place m c.requires.place

pub returns-clause-row : goal.returns-clause-row
returns-clause-row c = λ e k. (
  c.tick_endpoint-2.new.endpoint,
  refl,
  c.tick_endpoint-2.ensures ∙ ap (λ (v : Endpoint).
      link_after c.args.moment (is_among c.args.gone.now) (peer_link v))
      (c.index_mut-2.ensures.value
      ∙ got-is c.args.rows.now.items c.args.place e c.index_mut-2.result.now k),
)

pub returns-clause-dues : goal.returns-clause-dues
returns-clause-dues c =
    let xs = c.args.rows.now.items in
    let ds = c.args.dues.now.items in
    let i = c.args.place in
    let e = c.tick_endpoint-2.new.endpoint in
    dues-set xs ds (vec_capacity c.args.dues.now) c.requires.dues i e c.set_due.new.dues.items
    (vec_capacity c.set_due.new.dues) c.requires.place
    (c.set_due.ensures.items ∙ ap (λ (t : Option ℕ). put i t (removed i ds))
    (c.next_due.ensures ∙ ap (λ (x : Endpoint). timer (peer_link x))
    (c.index-3.ensures ∙ get_or-set_same xs i e c.index-3.result.now c.requires.place)))
    c.set_due.ensures.capacity
