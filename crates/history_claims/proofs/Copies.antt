-- Copies stand before all else.
use Rattle.std.proofs.Common.{◌≡◌, ℕ, ◌<◌, ◌≤◌, true, inl, inr, List, [], ◌∷◌, Some, refl, subst, arith}
use Rattle.std.proofs.lemmas.Bool.{false≢true, and_parts}
use Rattle.journal_book.specs.Entries.{Mark, Done, Deed, Carries, Written}
use Rattle.history_laws.specs.Readings.{Noted, Note, carries, are_copies, entries, at, before}
use Rattle.history_laws.specs.Justified.{copied_by, copied_below, Follows, Legal, Stands}
use Rattle.history_laws.proofs.CallerLemmas.{at-old, at-still, follows-at, legal-before, none-some}
use Rattle.history_claims.specs.Headline.{IsEntry}
use Rattle.history_claims.proofs.Entries.{entries-at}

record IsCopyBelow (n : ℕ) (d : Deed) : Type 0 where
  number : ℕ
  mark : Mark
  done : Done
  is : d ≡ Carries number mark done
  below : number < n

newest-copy : (l : List Noted) (t : ℕ) (d : Deed) (note : Note) → Follows l t d note → carries d ≡ true
    → IsCopyBelow (copied_by d (copied_below l)) d × (copied_below l ≤ copied_by d (copied_below l))
newest-copy l t (Carries k mark done) note may is =
    let le = may.1 in
    (record { number = k; mark = mark; done = done; is = refl; below = omega arith }, omega (arith, le))
newest-copy l t d note may is = absurd (false≢true is)

copy-below : (l : List Noted) (i : ℕ) (x : Noted) → Legal l → are_copies l ≡ true → at l i ≡ Some x → IsCopyBelow (copied_below l) x.written.deed
copy-below [] i x legal all e = absurd (none-some x e)
copy-below (y ∷ older) i x legal all e =
    let both = and_parts (carries y.written.deed) (are_copies older) all in
    let here = newest-copy older y.written.moment y.written.deed y.note legal.2 both.0 in
    elim (at-old y older i x e) [
      | inl w ↦ subst (λ (v : Noted). IsCopyBelow (copied_below (y ∷ older)) v.written.deed) w.1 here.0
      | inr w ↦
          let it = copy-below older i x legal.0 both.1 w in
          let lt = it.below in
          let le = here.1 in
          record { number = it.number; mark = it.mark; done = it.done; is = it.is; below = omega (arith, lt, le) }
    ]

before-copy : (l : List Noted) (i j s t n : ℕ) (d : Deed) (mark : Mark) (done : Done) → Legal l
    → IsEntry (entries l) i s d → IsEntry (entries l) j t (Carries n mark done) → i < j
    → (k : ℕ) × (other : Mark) × (what : Done) × (d ≡ Carries k other what) × (k < n)
before-copy l i j s t n d mark done legal a b lt =
    let old = entries-at l i _ a in
    let copy = entries-at l j _ b in
    let may = follows-at l j _ legal copy.1 in
    let it = copy-below (before l j) i _ (legal-before l j legal) may.0 (at-still l j i _ _ copy.1 lt old.1) in
    let below = it.below in
    let le = may.1 in
    (it.number, it.mark, it.done, it.is, omega (arith, below, le))

pub copies-first : (h : List Written) (i j s t n : ℕ) (d : Deed) (mark : Mark) (done : Done) → Stands h
    → IsEntry h i s d → IsEntry h j t (Carries n mark done) → i < j
    → (k : ℕ) × (other : Mark) × (what : Done) × (d ≡ Carries k other what) × (k < n)
copies-first h i j s t n d mark done stands =
    subst (λ (h : List Written). IsEntry h i s d → IsEntry h j t (Carries n mark done) → i < j → (k : ℕ) × (other : Mark) × (what : Done) × (d ≡ Carries k other what) × (k < n))
    stands.entries_are (before-copy stands.reading i j s t n d mark done stands.legal)
