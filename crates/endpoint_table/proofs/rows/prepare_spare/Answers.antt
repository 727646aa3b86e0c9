use Rattle.std.proofs.Common.{◌<◌, sym, subst, ◌∙◌, arith}
use Rattle.std.specs.Prelude.{vec_len, vec_capacity}
use Rattle.message_layer.specs.Prepared.{IsSubmission}
use Rattle.message_layer.specs.Values.{LinkValue}
use Rattle.endpoint_table.specs.declared.endpoint.Endpoint.{Endpoint}
use Rattle.endpoint_table.specs.Places.{HasNone}
use Rattle.endpoint_table.specs.Tables.{peer_link}
use Rattle.endpoint_table.proofs.Links.{spare-link}
use Rattle.std.proofs.Common.{List, map}
use Rattle.endpoint_table.proofs.rows.prepare_spare.Goals as goal

pub returns-clause-ok : goal.returns-clause-ok
returns-clause-ok c = λ p h.
    let xs : List Endpoint = c.try_reserve.new.self.items in
    let len = vec_len c.try_reserve.new.self in
    let capacity = vec_capacity c.try_reserve.new.self in
    let slots = vec_capacity c.try_reserve-2.new.self in
    let ok = c.in_ok-try_reserve.ensures.ok in
    let lt : len < capacity = omega (arith, ok) in
    let also = c.in_ok-try_reserve-2.ensures.ok in
    let is = c.capacity.ensures in
    let less : len < slots = omega (arith, ok, also, is) in
    let none : HasNone p (map peer_link xs) =
    subst (λ (es : List Endpoint). HasNone p (map peer_link es))
    (sym c.try_reserve.ensures.items) h in
    subst (λ (l : LinkValue). IsSubmission c.args.moment c.args.token c.args.text.now c.args.word l
    c.in_ok-submission.submission)
    (sym (spare-link p xs len capacity slots c.prepare_submit.new.self none
    (c.prepare_submit.ensures.same ∙ c.new-link.ensures) lt less)) c.in_ok-submission.ensures.ok
