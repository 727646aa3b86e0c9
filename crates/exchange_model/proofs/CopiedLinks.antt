-- A link of which only what is remembered is kept agrees with the copies.
use Rattle.std.proofs.Common.{◌≡◌, ℕ, ◌≤◌, Bool, false, List, [], None, is_some, sym, ap, subst, ◌∙◌, arith}
use Rattle.std.specs.Prelude.{filter, option_map}
use Rattle.std.specs.List.{list_any}
use Rattle.uri_map.specs.declared.peer.Peer.{Peer}
use Rattle.message_layer.specs.Values.{LinkState}
use Rattle.message_layer.specs.Hearing.{is_fresh}
use Rattle.message_layer.specs.declared.state.Heard.{Heard}
use Rattle.history_laws.specs.Readings.{Noted}
use Rattle.history_laws.specs.Hearing.{knows}
use Rattle.history_laws.specs.Justified.{Legal}
use Rattle.history_links.specs.Agrees.{Start, IsFrom, Agrees, HeardIn, WaitIn, TurnIn}
use Rattle.history_links.proofs.CallerLemmas.{count-kept, firsts-falling, given-kept, repeats-kept}
use Rattle.message_layer.specs.Calls.{kept_link}
use Rattle.exchange_model.proofs.Copies.{copied}
use Rattle.exchange_model.proofs.CopiedSendings.{last-copied, up-copied, used-copied}
use Rattle.exchange_model.proofs.CopiedHeard.{found-copied, live-copied}
use Rattle.exchange_model.proofs.CopiedIdle.{none-awaited, none-expected, none-out, none-waits}

-- From the turn on is from the beginning on.
from-before : (start after : Start) (f : ℕ → ℕ) (gs : List ℕ) (t : ℕ) (l : List Noted) → after.moment ≡ t → IsFrom start l t → (u : ℕ) → IsFrom after (copied f gs t l) u → (t ≤ u) × IsFrom start l u
from-before start after f gs t l at-turn now u from =
    let a = from.0 in let b = now.0 in let d = now.1 in
    (omega (arith, at-turn, a), (omega (arith, at-turn, a, b), omega (arith, at-turn, a, d)))

heard-copied : (start after : Start) (f : ℕ → ℕ) (gs : List ℕ) (t : ℕ) (l : List Noted) (p : Peer) (heard : List Heard) → after.moment ≡ t → IsFrom start l t → HeardIn start l p heard
    → HeardIn after (copied f gs t l) p (filter (is_fresh t) heard)
heard-copied start after f gs t l p heard at-turn now h = record {
  repeats = λ u mid from.
      let later = from-before start after f gs t l at-turn now u from in
      ap (option_map (λ (h : Heard). h.reply)) (repeats-kept t u mid heard later.0)
      ∙ (h.repeats u mid later.1 ∙ sym (found-copied f gs t u p mid l later.0));
  live = λ u from.
      let later = from-before start after f gs t l at-turn now u from in
      count-kept t u heard later.0 ∙ (h.live u later.1 ∙ sym (live-copied f gs t u p l later.0));
}

none-any : (q : ℕ → Bool) (xs : List ℕ) → xs ≡ [] → false ≡ list_any q xs
none-any q xs e = sym (ap (list_any q) e)

turn-copied : (f : ℕ → ℕ) (gs : List ℕ) (t : ℕ) (l : List Noted) (p : Peer) → TurnIn (copied f gs t l) p None
turn-copied f gs t l p = none-out f gs t l p

pub kept-agrees : (start after : Start) (f : ℕ → ℕ) (gs : List ℕ) (t : ℕ) (l : List Noted) (p : Peer) (s : LinkState) → Legal l → after.moment ≡ t → IsFrom start l t
    → is_some s.last_mid ≡ knows (copied f gs t l) p → Agrees start l p s → Agrees after (copied f gs t l) p (kept_link t s)
kept-agrees start after f gs t l p s legal at-turn now known a = record {
  turn = turn-copied f gs t l p;
  known = known;
  last = λ u from.
      let later = from-before start after f gs t l at-turn now u from in
      last-copied f gs t u p l s.last_mid later.0 (firsts-falling l legal) (a.last u later.1);
  count_up = λ u from.
      let later = from-before start after f gs t l at-turn now u from in
      up-copied f gs t u p l later.0 (a.count_up u later.1);
  given = λ u from.
      let later = from-before start after f gs t l at-turn now u from in
      given-kept t u s.given later.0 ∙ (a.given u later.1 ∙ sym (used-copied f gs t u p l later.0));
  waits = subst (λ (os : List ℕ). WaitIn after (copied f gs t l) os []) (sym (none-waits f gs t l p)) tt;
  awaits = λ token. none-expected f gs t l p token;
  acks = λ mid token. none-any _ _ (none-awaited f gs t l);
  heard = heard-copied start after f gs t l p s.heard at-turn now a.heard;
}
