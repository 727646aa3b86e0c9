-- Where copies stand, as entries alone tell it.
use Rattle.std.proofs.Common.{◌≡◌, ℕ, suc, ◌+◌, ◌<◌, ◌≤◌, Bool, true, false, List, [], ◌∷◌, ◌++◌, length, Option, Some, None, refl, ap, ◌∙◌, arith, append_assoc}
use Rattle.history_laws.specs.Exchanges.{ask_behind}
use Rattle.std.specs.List.{AllByRecursion}
use Rattle.journal_book.specs.Entries.{Deed, Asks, Sends, Hears, Carries, Written}
use Rattle.journal_book.specs.Entries as D
use Rattle.history_laws.specs.Readings.{Noted, Note, First, Says, Recalls, entries}
use Rattle.history_laws.proofs.CallerLemmas.{all-push, entries-length, eqb-apart, eqb-itself}
use Rattle.exchange_model.specs.Rotating.{is_copy_of, place_of}
use Rattle.exchange_model.proofs.Shapes.{Copy, Sent, Aimed, Heard, Bare, copy_as, copy_by, backing_copy}
use Rattle.exchange_model.proofs.Copies.{add_copy, copied, copy_in}
use Rattle.exchange_model.proofs.CopiedEntries.{written_of, entries-add}
use Rattle.exchange_model.proofs.Backed.{AreBacked, ArePlaced, BackedEntry, behind-more, IsHome}

-- the first of these with a number
abbrev pub AreOthers : ℕ → List Written → Type 0
AreOthers n ws = AllByRecursion (λ (w : Written). is_copy_of n w.deed ≡ false) ws

place-here : (n : ℕ) (vs : List Written) (w : Written) (rest : List Written) → AreOthers n vs → is_copy_of n w.deed ≡ true → place_of (vs ++ w ∷ rest) n ≡ length vs
place-here n [] w rest others is = rw (is) refl
place-here n (v ∷ vs) w rest others is =
    rw (others.0) (ap (λ (k : ℕ). k + 1) (place-here n vs w rest others.1 is) ∙ by (length vs))
  where
    by : (k : ℕ) → k + 1 ≡ suc k
    by k = omega arith

number-is : (n s : ℕ) (c : Copy) → is_copy_of n (copy_as n s c).written.deed ≡ true
number-is n s (Sent mark p b w m) = eqb-itself n
number-is n s (Aimed p b w o m) = eqb-itself n
number-is n s (Heard mark p b m a) = eqb-itself n
number-is n s (Bare done) = eqb-itself n

number-apart : (n k s : ℕ) (c : Copy) → k < n → is_copy_of n (copy_as k s c).written.deed ≡ false
number-apart n k s (Sent mark p b w m) lt = eqb-apart k n (λ same. omega (arith, same, lt))
number-apart n k s (Aimed p b w o m) lt = eqb-apart k n (λ same. omega (arith, same, lt))
number-apart n k s (Heard mark p b m a) lt = eqb-apart k n (λ same. omega (arith, same, lt))
number-apart n k s (Bare done) lt = eqb-apart k n (λ same. omega (arith, same, lt))

module _ (gs : List ℕ) (f home : ℕ → ℕ) (t : ℕ) where
  others-add : (n k s : ℕ) (oc : Option Copy) (c : List Noted) → k < n → AreOthers n (entries c) → AreOthers n (entries (add_copy k s oc c))
  others-add n k s None c lt h = h
  others-add n k s (Some copy) c lt h =
      all-push (λ (w : Written). is_copy_of n w.deed ≡ false) (entries c) (copy_as k s copy).written h (number-apart n k s copy lt)

  are-others : (n : ℕ) (l : List Noted) → length l ≤ n → AreOthers n (entries (copied home gs t l))
  are-others n [] le = tt
  are-others n (x ∷ older) le =
      others-add n (length older) x.written.moment (copy_in home gs t (length older) x) (copied home gs t older) (omega (arith, le)) (are-others n older (omega (arith, le)))

  -- What may be copied is.
  pub backed-copy : (l : List Noted) (d : Deed) (note : Note) → BackedEntry gs l d note → (c : Copy) × (backing_copy home d note ≡ Some c)
  backed-copy l (Asks c a) note h = (Bare (D.Asked c a), refl)
  backed-copy l (Carries k mark (D.Asked c a)) note h = (Bare (D.Asked c a), refl)
  backed-copy l (Sends p b w) (First o m) h = (Aimed p b w (home o) m, refl)
  backed-copy l (Carries k mark (D.Sent p b w)) (First o m) h = (Aimed p b w (home o) m, refl)
  backed-copy l (Hears p b) (Says m to notice) h = (Heard D.Ground p b m _, refl)
  backed-copy l (Carries k mark (D.Heard p b)) (Recalls m a) h = (Heard D.Ground p b m a, refl)
  backed-copy l d note h = absurd h

  -- A message goes with the ask that its exchange goes back to.
  abbrev AtHome : List Noted → Type 0
  AtHome l = (o : ℕ) → o < length l → home o ≡ f (ask_behind l o)

  at-home : (l : List Noted) (d : Deed) (note : Note) → BackedEntry gs l d note → AtHome l → IsHome gs f home t l d note
  at-home l (Sends p b w) (First o m) h all = all o h.opened
  at-home l (Carries k mark (D.Sent p b w)) (First o m) h all = all o h.opened
  at-home l d note h all = tt

  pub are-placed : (ws : List Written) → ((n : ℕ) → f n ≡ place_of ws n) → (l : List Noted) (rest : List Written) → ws ≡ entries (copied home gs t l) ++ rest → AreBacked gs l
      → ((o : ℕ) → o < length l → home o ≡ f (ask_behind l o)) → ArePlaced gs f home t l
  are-placed ws told [] rest is backed all = tt
  are-placed ws told (x ∷ older) rest is backed all = (
    are-placed ws told older (written_of n s oc ++ rest) (is ∙ (ap (λ (vs : List Written). vs ++ rest) (entries-add gs n s oc c) ∙ append_assoc (entries c) (written_of n s oc) rest)) backed.0 older-home,
    λ mine.
        let copy = backed-copy older x.written.deed x.note (backed.1 mine) in
        let made : oc ≡ Some copy.0 = ap (λ (b : Bool). copy_by b home t s x.written.deed x.note) mine ∙ copy.1 in
        let split : ws ≡ entries c ++ (copy_as n s copy.0).written ∷ rest =
        is ∙ (ap (λ (vs : List Written). vs ++ rest) (entries-add gs n s oc c ∙ ap (λ (v : Option Copy). entries c ++ written_of n s v) made)
        ∙ append_assoc (entries c) ((copy_as n s copy.0).written ∷ []) rest) in (
          told n ∙ (ap (λ (ws : List Written). place_of ws n) split
              ∙ (place-here n (entries c) (copy_as n s copy.0).written rest (are-others n older (omega arith)) (number-is n s copy.0) ∙ entries-length c)),
          at-home older x.written.deed x.note (backed.1 mine) older-home,
        ),
  )
    where
      older-home : (o : ℕ) → o < length older → home o ≡ f (ask_behind older o)
      older-home o lt = all o (omega (arith, lt)) ∙ ap f (behind-more x older o lt)

      n : ℕ
      n = length older

      s : ℕ
      s = x.written.moment

      c : List Noted
      c = copied home gs t older

      oc : Option Copy
      oc = copy_in home gs t n x
