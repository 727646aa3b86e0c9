-- Lists of what is observed, and what asks to observe.
use Rattle.std.proofs.Common.{◌≡◌, ℕ, Bool, true, false, cond, not, ◌&&◌, ◌||◌, eqb, leb, List, [], ◌∷◌, Option, Some, None, refl, sym, ap, ◌∙◌}
use Rattle.history_laws.specs.Justified.{Legal}
use Rattle.std.specs.Prelude.{find}
use Rattle.std.specs.List.{list_any}
use Rattle.std.specs.Str.{bytes_eq}
use Rattle.std.proofs.lemmas.Bool.{false≢true, and_parts}
use Rattle.std.proofs.lemmas.Bool.Decides.{Decides-eqb}
use Rattle.std.proofs.lemmas.Slice.Eq.{bytes_eq-Decides}
use Rattle.coap_codec.specs.Spelling.{Content}
use Rattle.uri_map.specs.declared.peer.Peer.{Peer}
use Rattle.uri_map.specs.Peers.{same_peer}
use Rattle.message_layer.specs.declared.verdict.News.{News}
use Rattle.message_layer.specs.declared.verdict.News.TheVariants as N
use Rattle.observe_share.specs.declared.registration.Registration.{Registration}
use Rattle.observe_share.specs.declared.notice.Notice.{Notice as Told}
use Rattle.observe_share.specs.declared.notice.Notice.TheVariants.{Update}
use Rattle.observe_share.specs.Watches.{counted, counts_for, heard_by, in_place, noticed}
use Rattle.observe_share.specs.Watches as W
use Rattle.history_laws.specs.Readings.{Noted, at, before}
use Rattle.history_laws.specs.Progress.{Reply}
use Rattle.history_laws.specs.Exchanges.{replies}
use Rattle.history_laws.specs.Observing.{unless_replied, wants_in}
use Rattle.message_layer.specs.Hearing.{verdict_of}
use Rattle.history_links.specs.Agrees.{Start}
use Rattle.history_links.specs.Steps.{ended_token}
use Rattle.exchange_model.specs.declared.kept.Exchange.{Exchange}
use Rattle.exchange_model.specs.State.{State, link_of}
use Rattle.exchange_model.specs.Reads.{ExchangeIn}
use Rattle.exchange_model.proofs.Apart.{AreApart, comes_to}
use Rattle.exchange_model.proofs.Over.{reset-empty}
use Rattle.exchange_model.proofs.Watches.{and-no, eq-turn, no-one-comes, or-no, others-apart}
use Rattle.exchange_model.proofs.Handed.{reads-get}

-- lists of registrations

-- One that is renewed comes as it did.
pub renewed-come : (p : Peer) (token tok : List ℕ) (v t : ℕ) (rs : List Registration)
    → list_any (comes_to p token) (noticed tok (Update v) t rs) ≡ list_any (comes_to p token) rs
renewed-come p token tok v t [] = refl
renewed-come p token tok v t (r ∷ rs) = by (W.is_under tok r) (renewed-come p token tok v t rs)
  where
    placed : (b : Bool) → list_any (comes_to p token) (in_place (cond b (counted (Update v) t r) (Some r)) rs) ≡ list_any (comes_to p token) (r ∷ rs)
    placed true = refl
    placed false = refl

    by : (b : Bool) → list_any (comes_to p token) (noticed tok (Update v) t rs) ≡ list_any (comes_to p token) rs
        → list_any (comes_to p token) (cond b (in_place (heard_by (Update v) t r) rs) (r ∷ noticed tok (Update v) t rs)) ≡ list_any (comes_to p token) (r ∷ rs)
    by true ih = placed (counts_for (Update v) t r)
    by false ih = ap (λ (b : Bool). comes_to p token r || b) ih

-- One that ends comes no more.
pub ended-come : (p : Peer) (token tok : List ℕ) (n : Told) (t : ℕ) (rs : List Registration) (r : Registration) → AreApart rs
    → find (W.is_under tok) rs ≡ Some r → heard_by n t r ≡ None
    → list_any (comes_to p token) (noticed tok n t rs) ≡ (not (bytes_eq token tok) && list_any (comes_to p token) rs)
ended-come p token tok n t [] r a is gone = absurd cc
ended-come p token tok n t (s ∷ rs) r a is gone = by (W.is_under tok s) refl is (λ f. ended-come p token tok n t rs r a.1 f gone)
  where
    some-same : Some s ≡ Some r → s ≡ r
    some-same e = cc

    removed : W.is_under tok s ≡ true → heard_by n t s ≡ None → (b : Bool) → bytes_eq token tok ≡ b
        → list_any (comes_to p token) (in_place (heard_by n t s) rs) ≡ (not b && list_any (comes_to p token) (s ∷ rs))
    removed under none true e =
        ap (λ (v : Option Registration). list_any (comes_to p token) (in_place v rs)) none
        ∙ (no-one-comes p token (λ (r : Registration). false) rs
        (others-apart p token s rs (ap (λ (k : List ℕ). bytes_eq s.token k) ((bytes_eq-Decides token tok).0 e) ∙ under) a.0)).0
    removed under none false e =
        ap (λ (v : Option Registration). list_any (comes_to p token) (in_place v rs)) none
        ∙ sym (ap (λ (b : Bool). (same_peer s.key.place.peer p && b) || list_any (comes_to p token) rs) apart
        ∙ ap (λ (b : Bool). b || list_any (comes_to p token) rs) (and-no (same_peer s.key.place.peer p)))
      where
        apart : bytes_eq s.token token ≡ false
        apart = ap (λ (k : List ℕ). bytes_eq k token) ((bytes_eq-Decides s.token tok).0 under) ∙ (eq-turn tok token ∙ e)

    kept : W.is_under tok s ≡ false → (b : Bool) → bytes_eq token tok ≡ b
        → list_any (comes_to p token) (noticed tok n t rs) ≡ (not b && list_any (comes_to p token) rs)
        → (comes_to p token s || list_any (comes_to p token) (noticed tok n t rs)) ≡ (not b && (comes_to p token s || list_any (comes_to p token) rs))
    kept other false e ih = ap (λ (b : Bool). comes_to p token s || b) ih
    kept other true e ih =
        ap (λ (b : Bool). comes_to p token s || b) ih
        ∙ (ap (λ (b : Bool). (same_peer s.key.place.peer p && b) || false) apart ∙ (or-no (same_peer s.key.place.peer p && false) ∙ and-no (same_peer s.key.place.peer p)))
      where
        apart : bytes_eq s.token token ≡ false
        apart = ap (λ (k : List ℕ). bytes_eq s.token k) ((bytes_eq-Decides token tok).0 e) ∙ other

    by : (b : Bool) → W.is_under tok s ≡ b → cond b (Some s) (find (W.is_under tok) rs) ≡ Some r
        → (find (W.is_under tok) rs ≡ Some r → list_any (comes_to p token) (noticed tok n t rs) ≡ (not (bytes_eq token tok) && list_any (comes_to p token) rs))
        → list_any (comes_to p token) (cond b (in_place (heard_by n t s) rs) (s ∷ noticed tok n t rs)) ≡ (not (bytes_eq token tok) && list_any (comes_to p token) (s ∷ rs))
    by true under found ih = removed under (ap (heard_by n t) (some-same found) ∙ gone) (bytes_eq token tok) refl
    by false other found ih = kept other (bytes_eq token tok) refl (ih found)

-- It comes from elsewhere as it did.
pub ended-elsewhere : (q : Peer) (token tok : List ℕ) (n : Told) (t : ℕ) (rs : List Registration) (r : Registration) → find (W.is_under tok) rs ≡ Some r
    → same_peer r.key.place.peer q ≡ false → heard_by n t r ≡ None
    → list_any (comes_to q token) (noticed tok n t rs) ≡ list_any (comes_to q token) rs
ended-elsewhere q token tok n t [] r is away gone = refl
ended-elsewhere q token tok n t (s ∷ rs) r is away gone = by (W.is_under tok s) is (λ f. ended-elsewhere q token tok n t rs r f away gone)
  where
    some-same : Some s ≡ Some r → s ≡ r
    some-same e = cc

    by : (b : Bool) → cond b (Some s) (find (W.is_under tok) rs) ≡ Some r
        → (find (W.is_under tok) rs ≡ Some r → list_any (comes_to q token) (noticed tok n t rs) ≡ list_any (comes_to q token) rs)
        → list_any (comes_to q token) (cond b (in_place (heard_by n t s) rs) (s ∷ noticed tok n t rs)) ≡ list_any (comes_to q token) (s ∷ rs)
    by true found ih =
        ap (λ (v : Option Registration). list_any (comes_to q token) (in_place v rs)) (ap (heard_by n t) (some-same found) ∙ gone)
        ∙ sym (ap (λ (b : Bool). (b && bytes_eq s.token token) || list_any (comes_to q token) rs) (ap (λ (z : Registration). same_peer z.key.place.peer q) (some-same found) ∙ away))
    by false found ih = ap (λ (b : Bool). comes_to q token s || b) (ih found)

-- What asks to observe is a GET.
pub observing-get : {start : Start} (l : List Noted) (e : Exchange) → Legal l → (a : ExchangeIn start l e) → e.observes ≡ true → eqb a.request.method 1 ≡ true
observing-get l e legal a is =
    let wants = unreplied (wants_in (before l e.opening) (at l e.opening)) (replies l e.opening) (a.observes ∙ is) in
    (and_parts (eqb a.request.method 1) _ (reads-get l e.opening _ legal a.opening wants)).0
  where
    unreplied : (b : Bool) (ss : List Reply) → unless_replied b ss ≡ true → b ≡ true
    unreplied b [] f = f
    unreplied b (s ∷ ss) f = absurd (false≢true f)

-- A reply comes under the token of its exchange.
pub replied-token : (l : List Noted) (t : ℕ) (p : Peer) (m : Content) (S : State) (token : List ℕ)
    → ended_token (verdict_of t (link_of S.links p) m).news m.token ≡ Some token → leb 32 m.code ≡ true → m.token ≡ token
replied-token l t p m S token is response = by (verdict_of t (link_of S.links p) m).news refl is
  where
    by : (y : News) → (verdict_of t (link_of S.links p) m).news ≡ y → ended_token y m.token ≡ Some token → m.token ≡ token
    by N.Quiet e f = absurd cc
    by N.Response e f = some-token f
      where
        some-token : Some m.token ≡ Some token → m.token ≡ token
        some-token g = cc
    by (N.Reset of) e f =
        absurd (false≢true (ap (leb 32) (sym ((Decides-eqb m.code 0).0 (reset-empty l t p m S of e))) ∙ response))
    by N.Lost e f = absurd cc
