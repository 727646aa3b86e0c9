-- What a journal is, and which of its entries can be read.
use Rattle.std.specs.Prelude.{◌≡◌, ◌⊎◌, ℕ, ◌+◌, ◌<◌, ◌≤◌, Bool, true, ◌&&◌, ◌==◌, nat_le, nat_lt, List, [], ◌∷◌, ◌++◌, filter, ⊤}
use Rattle.std.specs.List.{AllByRecursion, list_any}
use Rattle.journal_book.specs.Entries.{Written}

-- its entries, oldest first; how many of the first were given out; the numbers of those of these that
-- are kept; and how many more entries it takes without memory
pub record JournalValue : Type 0 where
  pub entries : List Written
  pub given : ℕ
  pub kept : List ℕ
  pub room : ℕ

-- the numbers rise
abbrev pub Rise : List ℕ → Type 0
Rise [] = ⊤
Rise (n ∷ ns) = AllByRecursion (λ (k : ℕ). n < k) ns × Rise ns

abbrev pub is_among : List ℕ → ℕ → Bool
is_among ns n = list_any (λ (k : ℕ). k == n) ns

-- An entry is here, and can be read, that wasn't given out or is kept.
abbrev pub IsHere : ℕ → List ℕ → ℕ → Type 0
IsHere given kept n = (given ≤ n) ⊎ (is_among kept n ≡ true)

-- so many numbers from the first one on
abbrev pub is_of : ℕ → ℕ → ℕ → Bool
is_of first many n = nat_le first n && nat_lt n (first + many)

-- What is kept once the next 1,024 entries leave: of what was kept, and of these, what is named.
abbrev pub kept_after : ℕ → List ℕ → List ℕ → List ℕ
kept_after given kept named = filter (is_among named) kept ++ filter (is_of given 1024) named
