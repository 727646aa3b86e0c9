-- What a tick makes of a link, as the step does it.
use Rattle.std.proofs.Common.{◌≡◌, ℕ, ◌<◌, ◌≤◌, Bool, cond, leb, inl, inr, List, [], ◌∷◌, Option, Some, None, refl, sym, ap, ◌∙◌, arith}
use Rattle.std.specs.Prelude.{filter}
use Rattle.std.proofs.lemmas.Bool.{lt-ltb, le-ltb}
use Rattle.std.proofs.lemmas.Bool.Decides.{eqb_tells, leb_tells}
use Rattle.limits.specs.declared.TheConstants.{MAX_RETRANSMIT}
use Rattle.uri_map.specs.declared.peer.Peer.{Peer}
use Rattle.message_layer.specs.Values.{LinkState}
use Rattle.message_layer.specs.Sending.{due_of, with_copy, next_by as call_next_by, submitted_by, ticked_by}
use Rattle.message_layer.specs.declared.state.Outstanding.{Outstanding}
use Rattle.message_layer.specs.declared.state.Waiting.{Waiting}
use Rattle.history_laws.specs.Readings.{Noted}
use Rattle.history_laws.specs.Justified.{Legal}
use Rattle.history_laws.proofs.CallerLemmas.{sound}
use Rattle.history_links.specs.Agrees.{way_of, TurnIn}
use Rattle.history_links.specs.Steps.{is_over}
use Rattle.exchange_model.specs.Steps.{given_out}
use Rattle.exchange_model.proofs.LinksHeard.{Turns}

-- At an endpoint a copy goes out that is due, or the next message.

abbrev pub moved_by : ℕ → LinkState → Option Outstanding → LinkState
moved_by t s None = submitted_by t s None
moved_by t s (Some o) = cond (leb (due_of o) t) (with_copy t s o) s

abbrev pub moved : ℕ → LinkState → LinkState
moved t s = moved_by t s s.outstanding

-- The timer of a link.

abbrev pub Few : Option Outstanding → Type 0
Few None = Unit {0}
Few (Some o) = o.retransmissions ≤ MAX_RETRANSMIT

pub tick-same : (t : ℕ) (r : LinkState) (v : Option Outstanding) → r.outstanding ≡ v → Turns v r.waiting → Few v
    → given_out (moved t (record r { outstanding = cond (is_over t v) None v })) ≡ given_out (ticked_by t r v).0
tick-same t r None e h few =
    ap (λ (ws : List Waiting). given_out (call_next_by t (record r { outstanding = None }) ws)) h
    ∙ ap (λ (u : Option Outstanding). given_out (record r { outstanding = u })) (sym e)
tick-same t r (Some o) e h few = elim (leb_tells (due_of o) t) [
  | inl w ↦ rw (w.0, le-ltb t (due_of o) w.1) (elim (eqb_tells o.retransmissions 4) [
    | inl k ↦ let same = k.1 in rw (k.0, le-ltb o.retransmissions 4 (omega (arith, same))) (gives_up r.waiting)
    | inr k ↦ let apart = k.1 in rw (k.0, w.0, lt-ltb o.retransmissions 4 (below apart)) refl
  ])
  | inr w ↦ rw (w.0, lt-ltb t (due_of o) w.1) (elim (eqb_tells o.retransmissions 4) [ inl k ↦ rw (k.0, w.0) (sym (ap (λ (u : Option Outstanding). given_out (record r { outstanding = u })) e)) | inr k ↦ rw (k.0, w.0) (sym (ap (λ (u : Option Outstanding). given_out (record r { outstanding = u })) e)) ])
]
  where
    gives_up : (ws : List Waiting) → given_out (call_next_by t (record r { outstanding = None }) ws) ≡ given_out (call_next_by t r ws)
    gives_up [] = refl
    gives_up (w ∷ ws) = refl

    below : (o.retransmissions ≡ 4 → ⊥) → o.retransmissions < 4
    below apart = elim (leb_tells 4 o.retransmissions) [ inl w ↦ let more = w.1 in absurd (apart (omega (arith, more, few))) | inr w ↦ w.1 ]

pub few-copies : (l : List Noted) (p : Peer) (v : Option Outstanding) → Legal l → TurnIn l p v → Few v
few-copies l p None legal turn = tt
few-copies l p (Some o) legal turn = (sound l turn.first.number (way_of o) legal turn.way).few

pub fewer-turn : (q : Waiting → Bool) (v : Option Outstanding) (ws : List Waiting) → Turns v ws → Turns v (filter q ws)
fewer-turn q None ws h = ap (filter q) h
fewer-turn q (Some o) ws h = tt
