-- The openings of a history, and the exchanges that are open.
use Rattle.std.proofs.Common.{◌≡◌, ℕ, Bool, true, false, eqb, inl, inr, List, [], ◌∷◌, ◌++◌, length, Option, Some, None, is_some, refl, sym, ap, subst, ◌∙◌}
use Rattle.std.specs.Prelude.{is_none}
use Rattle.std.specs.List.{Contains}
use Rattle.std.proofs.lemmas.List.Elements.{Contains-append_left, Contains-push, Contains-push_cases}
use Rattle.std.proofs.lemmas.Bool.{false≢true}
use Rattle.ask_model.specs.Requests.{CoapRequest}
use Rattle.history_laws.specs.Readings.{Noted, at, before}
use Rattle.history_laws.specs.Progress.{Ending}
use Rattle.history_laws.specs.Exchanges.{Begun, opens_by, begun_by, begun, opened_by, openings, End, kept, end_here, end_by, end_of, turn, heard_for, is_going, open_exchanges}
use Rattle.history_laws.specs.Justified.{Ends}
use Rattle.history_laws.proofs.Places.{at-new, at-keeps, at-below, before-keeps, before-new}
use Rattle.history_laws.proofs.Facts.{eqb-same, eqb-itself}
use Rattle.history_laws.proofs.Elements.{contains-none, contains-filter, filtered-from}
use Rattle.history_laws.proofs.Resting.{some-is}

begun-step : (n o t : ℕ) (asked : Option CoapRequest) (old : Option Begun) (os : List ℕ) (b : Bool) → eqb n o ≡ b
    → (is_some old ≡ true → Contains os o) → is_some (begun_by asked b t old) ≡ true → Contains (opened_by n asked os) o
begun-step n o t (Some q) old os true same ih e = subst (Contains (os ++ n ∷ [])) (eqb-same n o same) (Contains-push os n)
begun-step n o t (Some q) old os false same ih e = Contains-append_left os (n ∷ []) o (ih e)
begun-step n o t None old os true same ih e = ih e
begun-step n o t None old os false same ih e = ih e

pub begun-listed : (l : List Noted) (o : ℕ) → is_some (begun l o) ≡ true → Contains (openings l) o
begun-listed [] o e = absurd (false≢true e)
begun-listed (x ∷ older) o e =
    begun-step (length older) o x.written.moment (opens_by x.note) (begun older o) (openings older) (eqb (length older) o) refl
    (begun-listed older o) e

listed-step : (n o t : ℕ) (asked : Option CoapRequest) (old : Option Begun) (os : List ℕ) (b : Bool) → eqb n o ≡ b
    → (Contains os o → is_some old ≡ true) → Contains (opened_by n asked os) o → is_some (begun_by asked b t old) ≡ true
listed-step n o t (Some q) old os true same ih h = refl
listed-step n o t (Some q) old os false same ih h =
    elim (Contains-push_cases os n o h) [
      | inl w ↦ ih w
      | inr w ↦ absurd (false≢true (sym same ∙ subst (λ (o : ℕ). eqb n o ≡ true) w (eqb-itself n)))
    ]
listed-step n o t None old os true same ih h = ih h
listed-step n o t None old os false same ih h = ih h

pub listed-begun : (l : List Noted) (o : ℕ) → Contains (openings l) o → is_some (begun l o) ≡ true
listed-begun [] o h = absurd (contains-none o h)
listed-begun (x ∷ older) o h =
    listed-step (length older) o x.written.moment (opens_by x.note) (begun older o) (openings older) (eqb (length older) o) refl
    (listed-begun older o) h

none-is : (e : Option End) → is_none e ≡ true → e ≡ None
none-is None h = refl
none-is (Some x) h = cc

pub open-exactly : (l : List Noted) (o : ℕ)
    → (Contains (open_exchanges l) o → (is_some (begun l o) ≡ true) × (end_of l o ≡ None))
    × ((is_some (begun l o) ≡ true) × (end_of l o ≡ None) → Contains (open_exchanges l) o)
open-exactly l o = (
  λ h. let both = filtered-from (is_going l) (openings l) o h in (listed-begun l o both.0, none-is (end_of l o) both.1),
  λ g. contains-filter (is_going l) (openings l) o (begun-listed l o g.0) (ap is_none g.1),
)

-- the entry that ended an exchange is the first that does
abbrev EndsAt : List Noted → ℕ → ℕ → Ending → Type 0
EndsAt l o e how =
    (y : Noted) × (at l e ≡ Some y) × (end_of (before l e) o ≡ None)
    × (end_here (begun (before l e) o) (kept (before l e) o) e (heard_for (before l e) o) (turn (before l e) o y) ≡ Some how)

EndsAt-keeps : (x : Noted) (l : List Noted) (o e : ℕ) (how : Ending) → EndsAt l o e how → EndsAt (x ∷ l) o e how
EndsAt-keeps x l o e how h =
    let b = before-keeps x l e (at-below l e h.0 h.1) in
    (h.0, at-keeps x l e h.0 h.1, rw b (h.2), rw b (h.3))

EndsAt-new : (x : Noted) (l : List Noted) (o : ℕ) (how : Ending) → end_of l o ≡ None
    → end_here (begun l o) (kept l o) (length l) (heard_for l o) (turn l o x) ≡ Some how → EndsAt (x ∷ l) o (length l) how
EndsAt-new x l o how none ends =
    let b = before-new x l in
    (x, at-new x l, rw b none, rw b ends)

ends-step : (x : Noted) (l : List Noted) (o e : ℕ) (how : Ending) → (Ends l o e how → EndsAt l o e how)
    → (u : Option Ending) → end_here (begun l o) (kept l o) (length l) (heard_for l o) (turn l o x) ≡ u
    → (old : Option End) → end_of l o ≡ old → end_by u (length l) old ≡ Some (record { number = e; how = how }) → EndsAt (x ∷ l) o e how
ends-step x l o e how ih None w old v r = EndsAt-keeps x l o e how (ih (v ∙ r))
ends-step x l o e how ih (Some k) w None v r =
    let n : length l ≡ e = ap (λ (f : End). f.number) (some-is _ _ r) in
    let same : k ≡ how = ap (λ (f : End). f.how) (some-is _ _ r) in
    subst (λ (e : ℕ). EndsAt (x ∷ l) o e how) n (EndsAt-new x l o how v (rw (← same) w))
ends-step x l o e how ih (Some k) w (Some f) v r = EndsAt-keeps x l o e how (ih (v ∙ r))

pub ends-first : (l : List Noted) (o e : ℕ) (how : Ending) → Ends l o e how → EndsAt l o e how
ends-first [] o e how h = cc
ends-first (x ∷ older) o e how h =
    ends-step x older o e how (λ f. ends-first older o e how f)
    (end_here (begun older o) (kept older o) (length older) (heard_for older o) (turn older o x)) refl (end_of older o) refl h
