-- The exchanges that end at a tick are those that the step ends.
use Rattle.std.proofs.Common.{◌≡◌, ℕ, inl, inr, Bool, true, false, List, Option, Some, None, refl, ap, arith}
use Rattle.std.specs.Prelude.{filter, ◌&&◌, ◌||◌}
use Rattle.std.specs.Str.{bytes_eq}
use Rattle.std.proofs.lemmas.Bool.{lt-ltb, le-ltb}
use Rattle.std.proofs.lemmas.Bool.Decides.{eqb_tells, leb_tells}
use Rattle.message_layer.specs.Values.{LinkState}
use Rattle.message_layer.specs.Sending.{due_of, ticked_by}
use Rattle.message_layer.specs.Hearing.{is_outstanding_under}
use Rattle.message_layer.specs.declared.state.Outstanding.{Outstanding}
use Rattle.history_links.specs.Steps.{is_over as runs_out}
use Rattle.exchange_model.specs.declared.kept.Exchange.{Exchange}
use Rattle.exchange_model.specs.State.{State, link_of}
use Rattle.exchange_model.specs.Hearing.{is_past, expires, timed_out}
use Rattle.exchange_model.specs.Keeping.{Kept}
use Rattle.exchange_model.proofs.CallerLemmas.{below, Few, few-copies}
use Rattle.endpoint_table.specs.GivenUps.{given_up_by}
use Rattle.exchange_core.specs.Expiring.{is_that, is_over}

and-true : (b : Bool) → b ≡ (b && true)
and-true true = refl
and-true false = refl

and-false : (b : Bool) → false ≡ (b && false)
and-false true = refl
and-false false = refl

-- What was sent five times, and is due, is given up.
given-vain : (t : ℕ) (s : LinkState) (token : List ℕ) (v : Option Outstanding) → Few v
    → is_that (given_up_by (ticked_by t s v).1) token
    ≡ (is_outstanding_under token v && runs_out t v)
given-vain t s token None few = refl
given-vain t s token (Some o) few = elim (leb_tells (due_of o) t) [
  | inl w ↦ rw (w.0, le-ltb t (due_of o) w.1) (elim (eqb_tells o.retransmissions 4) [
    | inl k ↦
        let same = k.1 in
        rw (k.0, le-ltb o.retransmissions 4 (omega (arith, same)))
        (and-true (bytes_eq o.token token))
    | inr k ↦
        let apart = k.1 in
        rw (k.0, lt-ltb o.retransmissions 4 (below o.retransmissions few apart))
        (and-false (bytes_eq o.token token))
  ])
  | inr w ↦ rw (w.0, lt-ltb t (due_of o) w.1) (elim (eqb_tells o.retransmissions 4) [
    | inl k ↦ rw (k.0) (and-false (bytes_eq o.token token))
    | inr k ↦ rw (k.0) (and-false (bytes_eq o.token token))
  ])
]

over-one : (t : ℕ) (S : State) → Kept S → (e : Exchange)
    → is_over t S.links e ≡ expires t S.links e
over-one t S k e =
    let s = link_of S.links e.peer in
    ap (λ (b : Bool). is_past t e || (e.awaits && b))
    (given-vain t s e.token s.outstanding
    (few-copies k.reading e.peer s.outstanding k.rests.reads.legal
    (k.rests.reads.links_are e.peer).turn))

over-all : (t : ℕ) (S : State) → Kept S → is_over t S.links ≡ expires t S.links
over-all t S k = λ i e. over-one t S k e i

pub over-same : (t : ℕ) (S : State) → Kept S
    → filter (is_over t S.links) S.exchanges ≡ timed_out t S
over-same t S k = ap (λ (q : Exchange → Bool). filter q S.exchanges) (over-all t S k)
