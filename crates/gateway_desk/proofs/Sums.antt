-- What is counted and gathered, entry by entry and note by note.
use Rattle.std.proofs.Common.{◌≡◌, ◌≢◌, ℕ, suc, ◌+◌, ◌<◌, Bool, true, cond, List, [], ◌∷◌, ◌++◌, length, map, get_or, Some, refl, ap, arith}
use Rattle.std.specs.Prelude.{count_by, slice_get}
use Rattle.std.specs.List.{flat_map}
use Rattle.std.proofs.lemmas.List.Recursion.{is_count_by}
use Rattle.journal_book.specs.Entries.{Deed, Asks, Opens, Sends, Hears, Passes, Answers, Shuts, Seals, Carries, Written}
use Rattle.gateway_desk.specs.Ledgers.{asker, asks_of}
use Rattle.gateway_desk.specs.Running.{asks, is_ask}

one-counts : (d : Deed) (rest : List ℕ) → length (asker d ++ rest) ≡ cond (asks d) (1 + length rest) (length rest)
one-counts (Opens n) rest = refl
one-counts (Asks c a) rest = let more : suc (length rest) ≡ 1 + length rest = omega arith in more
one-counts (Sends p b w) rest = refl
one-counts (Hears p b) rest = refl
one-counts Passes rest = refl
one-counts (Answers c k g) rest = refl
one-counts (Shuts c) rest = refl
one-counts Seals rest = refl
one-counts (Carries n mark done) rest = refl

-- the asks of a history are those of its entries that ask
pub asks_counted : (h : List Written) → asks_of h ≡ count_by is_ask h
asks_counted h = is_count_by asks_of is_ask refl (λ w rest. one-counts w.deed (flat_map (λ (v : Written). asker v.deed) rest)) h

-- what is gathered of what is read off first
pub gather_map : {X Y : Type 0} (g : Y → List ℕ) (f : X → Y) (xs : List X) → flat_map (λ x. g (f x)) xs ≡ flat_map g (map f xs)
gather_map g f [] = refl
gather_map g f (x ∷ xs) = ap (λ (ns : List ℕ). g (f x) ++ ns) (gather_map g f xs)

-- the numbers in front of a place were seen, and only they, and none is there twice
abbrev pub WereSeen : (ℕ → Bool) → List ℕ → ℕ → Type 0
WereSeen seen xs i = (k d : ℕ) → k < i → seen (get_or xs k d) ≡ true

abbrev pub AreSeen : (ℕ → Bool) → List ℕ → ℕ → Type 0
AreSeen seen xs i = (n : ℕ) → seen n ≡ true → (k : ℕ) × (k < i) × (slice_get xs k ≡ Some n)

abbrev pub AreApartTo : List ℕ → ℕ → Type 0
AreApartTo xs i = (k j d : ℕ) → k < j → j < i → get_or xs k d ≢ get_or xs j d
