use Rattle.std.proofs.Common.{ℕ, Option, sym, ap, subst, ◌∙◌, map}
use Rattle.std.proofs.lemmas.List.{get_or-set_same}
use Rattle.std.proofs.lemmas.Option.{slice_get-get_or}
use Rattle.message_layer.specs.Prepared.{MaySubmit}
use Rattle.message_layer.specs.Sending.{submitted}
use Rattle.message_layer.specs.Values.{LinkState}
use Rattle.exchange_model.specs.Entering.{awaits_no_more}
use Rattle.exchange_model.specs.State.{with_link}
use Rattle.exchange_model.specs.Steps.{given_out}
use Rattle.endpoint_table.specs.declared.endpoint.Endpoint.{Endpoint}
use Rattle.endpoint_table.specs.Tables.{peer_link}
use Rattle.exchange_model.specs.Due.{timer}
use Rattle.endpoint_table.specs.Dues.{put, removed}
use Rattle.endpoint_table.proofs.Links.{links-set, state-there}
use Rattle.std.specs.Prelude.{vec_capacity}
use Rattle.endpoint_table.proofs.Timers.{dues-set, in-order, place-for, was-there}
use Rattle.endpoint_table.proofs.rows.submit_at.Goals as goal

pub submit-requires-clause-ready : goal.submit-requires-clause-ready
submit-requires-clause-ready c =
    subst (λ (v : Endpoint). MaySubmit c.args.moment v.link c.args.submission)
    (sym c.index_mut.ensures.value)
    (c.requires.ready _
    (slice_get-get_or c.args.rows.now.items c.args.place c.index_mut.result.now c.requires.place))

pub returns-clause-links : goal.returns-clause-links
returns-clause-links c = λ p f.
    links-set p c.args.rows.now.items c.args.place c.submit.new.endpoint c.index_mut.result.now f
    (c.submit.ensures.peer ∙ ap (λ (v : Endpoint). v.peer) c.index_mut.ensures.value)
    ∙ ap (λ (u : LinkState). with_link p u (map peer_link c.args.rows.now.items))
    (c.submit.ensures.link
    ∙ ap (λ (u : LinkState). given_out (awaits_no_more c.args.gone.now (submitted c.args.moment c.args.submission.waiting u)))
    (ap (λ (v : Endpoint). v.link.state) c.index_mut.ensures.value
    ∙ sym (state-there p c.args.rows.now.items c.args.place _ f
    (slice_get-get_or c.args.rows.now.items c.args.place c.index_mut.result.now
    c.requires.place))))

pub set_due-requires-clause-ordered : goal.set_due-requires-clause-ordered
set_due-requires-clause-ordered c =
    in-order c.args.rows.now.items c.args.dues.now.items (vec_capacity c.args.dues.now)
    c.requires.dues

pub set_due-requires-clause-was : goal.set_due-requires-clause-was
set_due-requires-clause-was c =
    was-there c.args.rows.now.items c.args.dues.now.items (vec_capacity c.args.dues.now)
    c.requires.dues c.args.place c.index.result.now _ c.requires.place c.index.ensures
    c.next_due-before.ensures

pub set_due-requires-clause-room : goal.set_due-requires-clause-room
set_due-requires-clause-room c = λ m e.
    place-for c.args.rows.now.items c.args.dues.now.items (vec_capacity c.args.dues.now)
    c.requires.dues c.args.place m c.requires.place

pub returns-clause-dues : goal.returns-clause-dues
returns-clause-dues c =
    let xs = c.args.rows.now.items in
    let ds = c.args.dues.now.items in
    let i = c.args.place in
    let e = c.submit.new.endpoint in
    dues-set xs ds (vec_capacity c.args.dues.now) c.requires.dues i e c.set_due.new.dues.items
    (vec_capacity c.set_due.new.dues) c.requires.place
    (c.set_due.ensures.items ∙ ap (λ (t : Option ℕ). put i t (removed i ds))
    (c.next_due.ensures ∙ ap (λ (x : Endpoint). timer (peer_link x))
    (c.index-2.ensures ∙ get_or-set_same xs i e c.index-2.result.now c.requires.place)))
    c.set_due.ensures.capacity
