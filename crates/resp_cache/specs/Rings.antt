-- Numbers in the order of their use, and the ring that holds them.
use Rattle.std.specs.Prelude.{◌≡◌, ◌≢◌, ℕ, zero, suc, ◌+◌, ◌-◌, ◌<◌, ◌≤◌, Bool, true, ◌&&◌, ◌==◌, nat_lt, not, List, [], ◌∷◌, filter, get_or, length, ⊤}
use Rattle.std.specs.List.{AllByRecursion, list_any}

abbrev pub is_in : ℕ → List ℕ → Bool
is_in s os = list_any (λ t. t == s) os

-- the other numbers
abbrev pub without : ℕ → List ℕ → List ℕ
without s os = filter (λ t. not (t == s)) os

abbrev pub Lacks : ℕ → List ℕ → Type 0
Lacks s os = AllByRecursion (λ t. t ≢ s) os

-- No number stands twice.
abbrev pub Apart : List ℕ → Type 0
Apart [] = ⊤
Apart (x ∷ xs) = Lacks x xs × Apart xs

-- the last number, or this one where there is none
abbrev pub last_of : ℕ → List ℕ → ℕ
last_of a [] = a
last_of a (x ∷ xs) = last_of x xs

-- The numbers from 1 on, each once.
pub record IsOrder (os : List ℕ) : Type 0 where
  pub apart : Apart os
  pub within : AllByRecursion (λ s. (0 < s) × (s ≤ length os)) os
  pub all : (s : ℕ) → 0 < s → s ≤ length os → is_in s os ≡ true

-- Between a and b stand these numbers: each has the next as its older one, and is its newer one.
abbrev pub Follow : List ℕ → List ℕ → ℕ → List ℕ → ℕ → Type 0
Follow older newer a [] b = (get_or older a 0 ≡ b) × (get_or newer b 0 ≡ a)
Follow older newer a (x ∷ xs) b =
    ((get_or older a 0 ≡ x) × (get_or newer x 0 ≡ a)) × Follow older newer x xs b

-- Between 0 and 0 stand these numbers, each once.
pub record IsLinked (older newer os : List ℕ) : Type 0 where
  pub follow : Follow older newer 0 os 0
  pub apart : Apart os
  pub within : AllByRecursion (λ s. (0 < s) × (s < length older)) os
  pub same : length newer ≡ length older

-- so many numbers, each the older one of that before it
abbrev pub walk : ℕ → List ℕ → ℕ → List ℕ
walk zero older a = []
walk (suc n) older a = get_or older a 0 ∷ walk n older (get_or older a 0)

-- the numbers in the ring, of which 0 is one that doesn't count
abbrev pub numbers_in : List ℕ → List ℕ
numbers_in older = walk (length older - 1) older 0

-- The numbers stand in the ring.
pub record IsRing (older newer : List ℕ) : Type 0 where
  pub linked : IsLinked older newer (numbers_in older)
  pub order : IsOrder (numbers_in older)

-- the numbers, and whether one more can be put without memory
pub record RingValue : Type 0 where
  pub items : List ℕ
  pub room : Bool

-- where so many stand in vectors of these capacities; 0 may have to come first
abbrev pub has_links_room : ℕ → ℕ → ℕ → ℕ → Bool
has_links_room olders places newers others =
    nat_lt (olders + 1) places && nat_lt (newers + 1) others
