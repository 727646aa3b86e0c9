-- The index of the slots that are taken, by the ranks of their keys.
use Rattle.std.specs.Prelude.{◌≡◌, ℕ, ◌≤◌, ◌<◌, Bool, false, ◌&&◌, ◌==◌, nat_le, nat_lt, not, List, [], ◌∷◌, Option, Some, None, length, take, drop, filter, ⊤}
use Rattle.std.specs.List.{AllByRecursion}
use Rattle.cache_key.specs.Digests.{rank_of}
use Rattle.resp_cache.specs.Slots.{slot_at}
use Rattle.resp_cache.specs.declared.names.Named.{Named}
use Rattle.resp_cache.specs.declared.pair.Pair.{Pair}

abbrev pub rank_in : Named → ℕ
rank_in n = n.rank

abbrev pub names_slot : ℕ → Named → Bool
names_slot s n = n.slot == s

abbrev pub names_other : ℕ → Option Named → Bool
names_other s None = false
names_other s (Some n) = not (names_slot s n)

-- Its rank is one of those from this one to before the other.
abbrev pub ranks_within : ℕ → ℕ → Named → Bool
ranks_within from to n = nat_le from n.rank && nat_lt n.rank to

abbrev pub ranks_below : ℕ → Option Named → Bool
ranks_below to None = false
ranks_below to (Some n) = nat_lt n.rank to

-- None of these numbers of theirs is below one before it.
abbrev pub Ascend : {X : Type 0} → (X → ℕ) → List X → Type 0
Ascend n [] = ⊤
Ascend n (x ∷ xs) = AllByRecursion (λ y. n x ≤ n y) xs × Ascend n xs

-- Those before this place are of lower ranks, and no other is.
pub record IsFirstFrom (rank : ℕ) (ns : List Named) (i : ℕ) : Type 0 where
  pub within : i ≤ length ns
  pub before : AllByRecursion (λ (n : Named). n.rank < rank) (take i ns)
  pub from : AllByRecursion (λ (n : Named). rank ≤ n.rank) (drop i ns)

-- what the index has of a slot
abbrev pub named_as : ℕ → Option Pair → List Named
named_as s None = []
named_as s (Some p) = record { rank = rank_of p.key; slot = s } ∷ []

-- The index has each slot that is taken under its key's rank, and nothing else; it is in order.
pub record IsNamed (slots : List (Option Pair)) (ns : List Named) : Type 0 where
  pub order : Ascend rank_in ns
  pub same : (s : ℕ) → filter (names_slot s) ns ≡ named_as s (slot_at slots s)
