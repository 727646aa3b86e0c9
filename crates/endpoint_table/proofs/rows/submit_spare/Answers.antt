use Rattle.std.proofs.Common.{◌≡◌, ℕ, Option, arith, ◌∷◌, ◌++◌, [], List, map, sym, ap, subst, ◌∙◌}
use Rattle.message_layer.specs.Sending.{submitted}
use Rattle.message_layer.specs.Values.{LinkState, empty_link}
use Rattle.exchange_model.specs.Entering.{awaits_no_more}
use Rattle.exchange_model.specs.State.{PeerLink, link_of}
use Rattle.exchange_model.specs.Steps.{given_out}
use Rattle.endpoint_table.specs.Tables.{peer_link, IsUnused}
use Rattle.std.specs.Prelude.{vec_capacity, vec_len}
use Rattle.exchange_model.specs.Due.{timer}
use Rattle.endpoint_table.specs.declared.endpoint.Endpoint.{Endpoint}
use Rattle.endpoint_table.specs.Dues.{put, AreDues}
use Rattle.endpoint_table.proofs.Timers.{dues-push, in-order, place-more, spare-slots}
use Rattle.endpoint_table.proofs.Links.{none-of, pushed, shown-push}
use Rattle.endpoint_table.proofs.rows.submit_spare.Goals as goal

pub returns-clause-links : goal.returns-clause-links
returns-clause-links c = λ h.
    let p = c.args.peer in
    let links : List PeerLink = map peer_link c.args.rows.now.items in
    let after = λ (s : LinkState).
    given_out (awaits_no_more c.args.gone.now (submitted c.args.moment c.args.submission.waiting s)) in
    let empty : c.in-Some.link.state ≡ empty_link =
    subst IsUnused (sym c.take.ensures.value ∙ c.in-Some.is) c.requires.unused in
    let state : c.submit_to.new.link.state ≡ after (link_of links p) =
    c.submit_to.ensures ∙ ap after (empty ∙ sym (none-of p links h)) in
    ap (map peer_link) c.push_reserved.ensures.items
    ∙ (shown-push c.args.rows.now.items (record { peer = p; link = c.submit_to.new.link })
    ∙ (ap (λ (s : LinkState). links ++ record { peer = p; link = s } ∷ []) state
    ∙ sym (pushed p (after (link_of links p)) links h)))

pub put_due-requires-clause-ordered : goal.put_due-requires-clause-ordered
put_due-requires-clause-ordered c =
    in-order c.args.rows.now.items c.args.dues.now.items (vec_capacity c.args.dues.now)
    c.requires.dues

pub put_due-requires-clause-room : goal.put_due-requires-clause-room
put_due-requires-clause-room c = λ m e.
    let slots = spare-slots (vec_len c.args.rows.now) (vec_capacity c.args.rows.now)
    (vec_capacity c.args.dues.now) c.args.spare.now c.in-Some.link
    (sym c.take.ensures.value ∙ c.in-Some.is) c.requires.ready.room in
    let n = c.args.rows.now.ok.0 in
    place-more c.args.rows.now.items c.args.dues.now.items (vec_capacity c.args.dues.now)
    c.requires.dues (omega (arith, slots, n))

pub returns-clause-dues : goal.returns-clause-dues
returns-clause-dues c =
    let xs = c.args.rows.now.items in
    let ds = c.args.dues.now.items in
    let e : Endpoint = record { peer = c.args.peer; link = c.submit_to.new.link } in
    let slots = spare-slots (vec_len c.args.rows.now) (vec_capacity c.args.rows.now)
    (vec_capacity c.args.dues.now) c.args.spare.now c.in-Some.link
    (sym c.take.ensures.value ∙ c.in-Some.is) c.requires.ready.room in
    let n = c.args.rows.now.ok.0 in
    let more = c.put_due.ensures.capacity in
    subst (λ (es : List Endpoint). AreDues es c.put_due.new.dues.items
    (vec_capacity c.put_due.new.dues)) (sym c.push_reserved.ensures.items)
    (dues-push xs ds (vec_capacity c.args.dues.now) c.requires.dues e c.put_due.new.dues.items
    (vec_capacity c.put_due.new.dues) (omega (arith, slots, n, more))
    (c.put_due.ensures.items ∙ (ap (λ (t : Option ℕ). put c.len.result t ds) c.next_due.ensures
    ∙ ap (λ (k : ℕ). put k (timer (peer_link e)) ds) (c.len.ensures ∙ n))))
