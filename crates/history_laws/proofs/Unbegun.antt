-- Before it is opened, an exchange neither waits nor ends.
use Rattle.std.proofs.Common.{◌≡◌, ℕ, Bool, true, false, eqb, inl, inr, List, [], ◌∷◌, length, Option, Some, None, refl, sym, subst, ◌∙◌, arith}
use Rattle.std.proofs.lemmas.Bool.Decides.{eqb_tells}
use Rattle.ask_model.specs.Requests.{CoapRequest}
use Rattle.journal_book.specs.Entries.{Deed, Sends, Hears, Passes}
use Rattle.history_laws.specs.Readings.{Noted, Note, First, Says}
use Rattle.history_laws.specs.Exchanges.{Begun, begun_by, begun, opens_by, Nothing, turn_by, turn, waits_for, replies, end_of}
use Rattle.history_laws.specs.Justified.{Follows, Legal}
use Rattle.history_laws.proofs.Sent.{begun-below}

not-begun : (q : Option CoapRequest) (here : Bool) (t : ℕ) (old : Option Begun) → begun_by q here t old ≡ None → old ≡ None
not-begun None here t old e = e
not-begun (Some q) true t old e = cc
not-begun (Some q) false t old e = e

some-begun : (b : Begun) (o : Option Begun) → o ≡ Some b → o ≡ None → ⊥
some-begun b o e f = none-some (sym f ∙ e)
  where
    none-some : None ≡ Some b → ⊥
    none-some e = cc

no-turn : (l : List Noted) (o t : ℕ) (d : Deed) (note : Note) → Follows l t d note → begun l o ≡ None → turn_by l o t d note None ≡ Nothing
no-turn l o t (Sends p b w) (First q m) f e =
    elim (eqb_tells q o) [
      | inl same ↦ absurd (some-begun (record { since = f.1.1.since; request = f.1.1.request }) (begun l q) f.1.1.opening (subst (λ (k : ℕ). begun l k ≡ None) (sym same.1) e))
      | inr other ↦ rw (other.0) refl
    ]
no-turn l o t (Hears p b) (Says m (Some i) notice) f e = refl
no-turn l o t Passes note f e = rw (e) refl
no-turn l o t _ _ f e = refl

unbegun-step : (x : Noted) (l : List Noted) (o : ℕ) → Follows l x.written.moment x.written.deed x.note → begun l o ≡ None
    → (waits_for l o ≡ None) × (end_of l o ≡ None) → (waits_for (x ∷ l) o ≡ None) × (end_of (x ∷ l) o ≡ None)
unbegun-step x l o may e old =
    let none : turn l o x ≡ Nothing = rw (old.0) (no-turn l o x.written.moment x.written.deed x.note may e) in
    (rw (none, old.0) refl, rw (none, old.1) refl)

pub unbegun : (l : List Noted) (o : ℕ) → Legal l → begun l o ≡ None → (waits_for l o ≡ None) × (end_of l o ≡ None)
unbegun [] o legal e = (refl, refl)
unbegun (x ∷ older) o legal e =
    let old = not-begun (opens_by x.note) (eqb (length older) o) x.written.moment (begun older o) e in
    unbegun-step x older o legal.2 old (unbegun older o legal.0 old)

-- Nor does it end as it is opened.
pub unended : (x : Noted) (l : List Noted) (o : ℕ) → Legal (x ∷ l) → begun l o ≡ None → end_of (x ∷ l) o ≡ None
unended x l o legal e = (unbegun-step x l o legal.2 e (unbegun l o legal.0 e)).1

-- The number of an entry to come opened nothing.
pub not-yet : (l : List Noted) → begun l (length l) ≡ None
not-yet l = by (begun l (length l)) refl
  where
    by : (b : Option Begun) → begun l (length l) ≡ b → b ≡ None
    by None e = refl
    by (Some b) e = let lt = begun-below l (length l) b e in absurd (omega (arith, lt))

-- Nor has it replies.
pub replies-none : (l : List Noted) (o : ℕ) → Legal l → begun l o ≡ None → (waits_for l o ≡ None) × (replies l o ≡ [])
replies-none [] o legal e = (refl, refl)
replies-none (x ∷ older) o legal e =
    let old = not-begun (opens_by x.note) (eqb (length older) o) x.written.moment (begun older o) e in
    let ih = replies-none older o legal.0 old in
    let none : turn older o x ≡ Nothing = rw (ih.0) (no-turn older o x.written.moment x.written.deed x.note legal.2 old) in
    (rw (none, ih.0) refl, rw (none, ih.1) refl)
