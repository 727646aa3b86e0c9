-- Where nothing is stored for a GET.
use Rattle.std.proofs.Common.{◌≡◌, ℕ, Bool, true, false, ◌&&◌, ◌||◌, eqb, inl, inr, List, [], ◌∷◌, Option, Some, None, is_some, refl, sym, ap, ◌∙◌}
use Rattle.std.specs.List.{Contains, list_any}
use Rattle.std.proofs.lemmas.Bool.{false≢true, and_parts, or_left, or_parts, or_right}
use Rattle.resp_cache.specs.Stored.{Stored, is_fresh}
use Rattle.ask_model.specs.Requests.{CoapRequest}
use Rattle.history_laws.specs.Responses.{Response}
use Rattle.history_laws.specs.Readings.{Noted, Note, Says, Observation, Updates, at}
use Rattle.history_laws.specs.Progress.{Reply, Ending, Whole}
use Rattle.history_laws.specs.Exchanges.{Begun, begun, openings, End, end_of}
use Rattle.history_laws.specs.Joining.{asks_the_same, is_joinable}
use Rattle.history_laws.specs.Storing.{content, EndsSo, IsAsHeard, MissesAlone, UpdatesSo, IsCrowdedOut}
use Rattle.history_laws.proofs.Carrying.{as-heard, has-carried, has-renewing, no-carried}
use Rattle.history_laws.proofs.Elements.{any-of}
use Rattle.history_laws.proofs.Openings.{begun-listed}
use Rattle.history_laws.proofs.Places.{at-old}
use Rattle.history_laws.proofs.Resting.{none-some}
use Rattle.ask_model.specs.Sharing.{asked_key}

-- the exchange ended with a whole 2.05
abbrev is-content : Ending → Bool
is-content (Whole w rs) = eqb w.code content
is-content how = false

abbrev ended-content : Option End → Bool
ended-content None = false
ended-content (Some e) = is-content e.how

abbrev pub might-answer : List Noted → CoapRequest → ℕ → Bool
might-answer l q o = is_joinable l q o && ended-content (end_of l o)

-- a notification brought one
abbrev is-update : Observation → Bool
is-update Updates = true
is-update observation = false

abbrev updates : Note → Bool
updates (Says m (Some i) notice) = is-update notice.observation
updates note = false

abbrev pub has-update : List Noted → Bool
has-update l = list_any (λ (x : Noted). updates x.note) l

-- what stands passes, if it does
any-at : (p : Noted → Bool) (l : List Noted) (n : ℕ) (x : Noted) → at l n ≡ Some x → p x ≡ true → list_any p l ≡ true
any-at p [] n x e h = absurd (none-some x e)
any-at p (y ∷ older) n x e h =
    elim (at-old y older n x e) [
      | inl w ↦ or_left (p y) (list_any p older) (ap p w.1 ∙ h)
      | inr w ↦ or_right (p y) (list_any p older) (any-at p older n x w h)
    ]

pub no-updates : (l : List Noted) (o e : ℕ) (w : Response) (rs : List Reply) → has-update l ≡ false → UpdatesSo l o e w rs → ⊥
no-updates l o e w rs none u = false≢true (sym none ∙ any-at (λ (x : Noted). updates x.note) l e _ u.stands refl)

by-heard : (l : List Noted) (t : ℕ) (q : CoapRequest) → list_any (might-answer l q) (openings l) ≡ false → has-update l ≡ false → has-carried l ≡ false
    → (s : Stored) → IsAsHeard l q s → is_fresh t s ≡ true → IsCrowdedOut l (asked_key q)
by-heard l t q none quiet own s (inr a) fresh = absurd (no-carried l a.opening s.response (a.first ∷ a.more) own a.carries)
by-heard l t q none quiet own s (inl a) fresh = elim a.comes [ inl it ↦ not-ended it | inr it ↦ absurd (no-updates l _ _ _ _ quiet it) ]
  where
    same : asks_the_same q (begun l a.opening) ≡ true
    same = (and_parts (asks_the_same q (begun l a.opening)) _ a.shared).0

    was : (b : Option Begun) → asks_the_same q b ≡ true → is_some b ≡ true
    was None e = absurd (false≢true e)
    was (Some b) e = refl

    listed : Contains (openings l) a.opening
    listed = begun-listed l a.opening (was (begun l a.opening) same)

    not-ended : EndsSo l a.opening a.ending s.response (a.first ∷ a.more) → IsCrowdedOut l (asked_key q)
    not-ended it =
        let might : might-answer l q a.opening ≡ true = rw (a.shared, it.ended, it.code) refl in
        absurd (false≢true (sym none ∙ any-of (might-answer l q) (openings l) a.opening listed might))

pub none-stored : (l : List Noted) (t : ℕ) (q : CoapRequest) → (list_any (might-answer l q) (openings l) || (has-update l || (has-carried l || has-renewing l))) ≡ false
    → MissesAlone l t q
none-stored l t q none s is fresh =
    let p = or_parts (list_any (might-answer l q) (openings l)) _ none in
    let r = or_parts (has-update l) _ p.1 in
    let v = or_parts (has-carried l) (has-renewing l) r.1 in
    by-heard l t q p.0 r.0 v.0 s (as-heard l q s v.1 is) fresh
