-- What stands in a reading stands among its entries, and the other way round.
use Rattle.std.proofs.Common.{◌≡◌, ◌≢◌, ◌⊎◌, ℕ, zero, suc, ◌≤◌, inl, inr, List, [], ◌∷◌, ◌++◌, length, Some, refl, sym, ap, subst, ◌∙◌}
use Rattle.std.specs.List.{slice_get}
use Rattle.std.proofs.lemmas.Bool.Decides.{eqb_tells}
use Rattle.ask_model.specs.Requests.{Sense}
use Rattle.ask_model.specs.Views.{Ask}
use Rattle.journal_book.specs.Entries.{Mark, Done, Asked, Sent, Heard, done_of, Deed, Asks, Sends, Hears, Carries, Written}
use Rattle.history_laws.specs.Readings.{Noted, Note, entries, at, before, newest, noted}
use Rattle.history_laws.specs.Justified.{Legal}
use Rattle.history_laws.proofs.CallerLemmas.{at-entries, entries-length, got-last, got-more, none-some, some-is}
use Rattle.history_claims.specs.Headline.{IsEntry, WasDone, IsAsked}

got-less : {X : Type 0} (xs : List X) (y : X) (n : ℕ) (x : X) → n ≢ length xs → slice_get (xs ++ y ∷ []) n ≡ Some x → slice_get xs n ≡ Some x
got-less [] y zero x not e = absurd (not refl)
got-less [] y (suc n) x not e = absurd cc
got-less (z ∷ xs) y zero x not e = e
got-less (z ∷ xs) y (suc n) x not e = got-less xs y n x (λ same. not (ap suc same)) e

pub entries-at : (l : List Noted) (n : ℕ) (w : Written) → slice_get (entries l) n ≡ Some w
    → (note : Note) × (at l n ≡ Some (record { written = w; note = note }))
entries-at [] n w e = absurd cc
entries-at (y ∷ older) n w e =
    elim (eqb_tells n (length older)) [
      | inl u ↦
          let place : n ≡ length (entries older) = u.1 ∙ sym (entries-length older) in
          let here : slice_get (entries older ++ y.written ∷ []) (length (entries older)) ≡ Some w =
          subst (λ (k : ℕ). slice_get (entries older ++ y.written ∷ []) k ≡ Some w) place e in
          let same : y.written ≡ w = some-is y.written w (sym (got-last (entries older) y.written []) ∙ here) in
          (y.note, rw (u.0) (ap (λ (v : Written). Some (record { written = v; note = y.note })) same))
      | inr u ↦
          let old = entries-at older n w (got-less (entries older) y.written n w (λ same. u.1 (same ∙ entries-length older)) e) in
          (old.0, rw (u.0) old.1)
    ]

pub entry-keeps : (x : Noted) (l : List Noted) (n t : ℕ) (d : Deed) → IsEntry (entries l) n t d → IsEntry (entries (x ∷ l)) n t d
entry-keeps x l n t d e = got-more (entries l) (x.written ∷ []) n _ e

-- an ask that stands
pub asked-entry : (l : List Noted) (k c t : ℕ) (a : Ask) (note : Note) (s : Sense) → at l k ≡ Some (noted t (Asks c a) note) → a.sense ≡ s
    → IsAsked (entries l) k c t s
asked-entry l k c t a note s e sense =
    subst (λ (s : Sense). IsAsked (entries l) k c t s) sense (record { came = a.came; rules = a.rules; stands = at-entries l k _ e })

-- What was done is said by an entry of its own, or by a copy.
abbrev pub own_deed : Done → Deed
own_deed (Asked c a) = Asks c a
own_deed (Sent p b w) = Sends p b w
own_deed (Heard p b) = Hears p b

done-cases : (d : Deed) (done : Done) → done_of d ≡ Some done → (d ≡ own_deed done) ⊎ ((k : ℕ) × (mark : Mark) × (d ≡ Carries k mark done))
done-cases (Asks c a) done e = inl (ap own_deed (some-is (Asked c a) done e))
done-cases (Sends p b w) done e = inl (ap own_deed (some-is (Sent p b w) done e))
done-cases (Hears p b) done e = inl (ap own_deed (some-is (Heard p b) done e))
done-cases (Carries k mark old) done e = inr (k, mark, ap (λ (x : Done). Carries k mark x) (some-is old done e))
done-cases d done e = absurd (none-some done e)

pub own-or-copied : (h : List Written) (n t : ℕ) (done : Done) → WasDone h n t done
    → IsEntry h n t (own_deed done) ⊎ ((k : ℕ) × (mark : Mark) × IsEntry h n t (Carries k mark done))
own-or-copied h n t done w =
    elim (done-cases w.deed done w.says) [
      | inl own ↦ inl (subst (IsEntry h n t) own w.stands)
      | inr old ↦ inr (old.0, old.1, subst (IsEntry h n t) old.2 w.stands)
    ]

-- what holds of a history before an entry, and stays true as it grows, holds of it all
pub grows : (P : List Noted → Type 0) → ((x : Noted) (l : List Noted) → P l → P (x ∷ l)) → (l : List Noted) (n : ℕ) → P (before l n) → P l
grows P keeps [] n h = h
grows P keeps (x ∷ older) n h =
    elim (eqb_tells n (length older)) [
      | inl w ↦ keeps x older (rw (w.0) at h)
      | inr w ↦ keeps x older (grows P keeps older n (rw (w.0) at h))
    ]

-- moments never fall
pub newest-before : (l : List Noted) (n : ℕ) (x : Noted) → Legal l → at l n ≡ Some x → newest (before l n) ≤ x.written.moment
newest-before [] n x legal e = absurd cc
newest-before (y ∷ older) n x legal e =
    elim (eqb_tells n (length older)) [
      | inl w ↦ rw (w.0) (subst (λ (v : Noted). newest older ≤ v.written.moment) (some-is y x (rw (w.0) at e)) legal.1)
      | inr w ↦ rw (w.0) (newest-before older n x legal.0 (rw (w.0) at e))
    ]
