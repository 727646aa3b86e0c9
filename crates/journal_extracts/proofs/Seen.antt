-- What can be read of a journal, as a test.
use Rattle.std.proofs.Common.{◌≡◌, ℕ, ◌≤◌, ◌⊎◌, inl, inr, Bool, true, false, cond, leb, leb-true, ◌||◌, [], length, slice_get, refl, ap}
use Rattle.std.proofs.lemmas.Option.{slice_get_past}
use Rattle.journal_book.specs.Journals.{IsHere, JournalValue, is_among}
use Rattle.journal_extracts.specs.Extracts.{entry_at, is_here, placed}

or-cases : (b c : Bool) → (b || c) ≡ true → (b ≡ true) ⊎ (c ≡ true)
or-cases true c e = inl refl
or-cases false c e = inr e

here-test : (j : JournalValue) (n : ℕ) → is_here j n ≡ true → IsHere j.given j.kept n
here-test j n e = elim (or-cases (leb j.given n) (is_among j.kept n) e) [
  | inl le ↦ inl (leb-true j.given n le)
  | inr so ↦ inr so
]

pub none-at : (j : JournalValue) (n : ℕ) → (IsHere j.given j.kept n → length j.entries ≤ n)
    → entry_at j n ≡ []
none-at j n past = by (is_here j n) refl
  where
    by : (b : Bool) → is_here j n ≡ b → cond b (placed n (slice_get j.entries n)) [] ≡ []
    by true is = ap (placed n) (slice_get_past j.entries n (past (here-test j n is)))
    by false is = refl
