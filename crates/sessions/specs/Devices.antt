-- What devices did.
use Rattle.std.specs.Prelude.{◌≡◌, ℕ, ◌+◌, ◌-◌, ◌^◌, min, ⊤, List, ◌++◌, take, Option, Some, None}

-- one more, where the count isn't full
abbrev pub Rises : ℕ → ℕ → Type 0
Rises old new = new ≡ min (old + 1) (2 ^ 64 - 1)

-- These came after those before, as far as it is known which there were.
abbrev pub Grown : {A : Type 0} → Option (List A) → Option (List A) → List A → Type 0
Grown None new more = ⊤
Grown (Some old) None more = ⊥
Grown (Some old) (Some new) more = new ≡ old ++ more

-- A part of the bytes was written, or all of them, or nothing.
abbrev pub GrownPartly : Option (List ℕ) → Option (List ℕ) → List ℕ → Type 0
GrownPartly old new bytes = (n : ℕ) × Grown old new (take n bytes)
