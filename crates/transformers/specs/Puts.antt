-- What a pass over a JSON value writes: the shortest item of the value that it stands for. For private
-- clauses.
use Rattle.std.specs.Prelude.{◌≡◌, ◌≤◌, ◌<◌, ◌^◌, ◌++◌, ℕ, zero, suc, negsuc, List, [], ◌∷◌, Bool, false, Option, Some, None, ⊤}
use Rattle.std.specs.Borrow.{Bor}
use Rattle.std.specs.Str.{IsUtf8}
use Rattle.std.specs.declared.alloc.Global.{Global}
use Rattle.json.specs.Json.{Json}
use Rattle.json.specs.Value.{value_view}
use Rattle.json.specs.declared.value.Value.{Value}
use Rattle.serde_json.specs.Data.{Num, unsigned, negative, float, Data, array, object, Items, Members, no_members, member, depth, items_depth, members_depth}
use Rattle.serde_json.specs.Read.{of_json}
use Rattle.serde_json.specs.Written.{has_float, items_have_float, members_have_float}
use Rattle.transformers.specs.Shortest.{shortest, members_bytes, text_bytes}
use Rattle.transformers.specs.Told.{IsBelow, IsSound, AreSound, AreSoundMembers}
use Rattle.transformers.specs.declared.number.Number as rust
use Rattle.transformers.specs.declared.number.Number.TheVariants as kind

-- ---- numbers

abbrev pub num_of : rust.Number → Num
num_of (kind.Unsigned n) = unsigned n
num_of (kind.Negative n) = negative (negsuc n)
num_of (kind.Float x) = float x

-- a whole number is in range
abbrev pub IsFit : Num → Type 0
IsFit (unsigned n) = n < 2 ^ 64
IsFit (negative z) = (n : ℕ) × (z ≡ negsuc n) × (n < 2 ^ 63)
IsFit (float x) = ⊤

-- ---- what is written

-- What was read is in the profile, and stands as its shortest item behind what was there.
pub record Puts {A : Type 0} (IsGood : A → Type 0) (deep : A → ℕ) (text : A → List ℕ)
    (levels : ℕ) (read : Option A) (old new : List ℕ) : Type 0 where
  pub value : A
  pub is : read ≡ Some value
  pub good : IsGood value
  pub nested : deep value ≤ levels
  pub told : new ≡ old ++ text value

abbrev pub PutsItem : ℕ → Option Data → List ℕ → List ℕ → Type 0
PutsItem = Puts IsSound depth shortest

abbrev pub PutsItems : ℕ → Option Items → List ℕ → List ℕ → Type 0
PutsItems = Puts AreSound items_depth (λ ds. shortest (array ds))

abbrev pub PutsMembers : ℕ → Option Members → List ℕ → List ℕ → Type 0
PutsMembers = Puts AreSoundMembers members_depth (λ ms. shortest (object ms))

-- behind its key
abbrev pub PutsMember : List ℕ → ℕ → Option Data → List ℕ → List ℕ → Type 0
PutsMember key = Puts (λ d. IsUtf8 key × IsSound d) depth (λ d. text_bytes key ++ shortest d)

-- the members without the head
abbrev pub PutsFront : ℕ → Members → List ℕ → List ℕ → Type 0
PutsFront levels ms = Puts AreSoundMembers members_depth members_bytes levels (Some ms)

-- What was read isn't in the profile.
abbrev pub Refuses : {A : Type 0} → (A → Bool) → (A → ℕ) → ℕ → Option A → Type 0
Refuses {A} has deep levels read =
    (x : A) → read ≡ Some x → ¬ ((has x ≡ false) × (deep x ≤ levels))

abbrev pub RefusesItem : ℕ → Option Data → Type 0
RefusesItem = Refuses has_float depth

abbrev pub RefusesItems : ℕ → Option Items → Type 0
RefusesItems = Refuses items_have_float items_depth

abbrev pub RefusesMembers : ℕ → Option Members → Type 0
RefusesMembers = Refuses members_have_float members_depth

-- ---- the members of an object that count, each by its place

abbrev pub Entry : Type 0
Entry = Bor (List ℕ) × Value Global

abbrev pub json_at : List Entry → ℕ → Option Json
json_at [] i = None
json_at (e ∷ es) zero = Some (value_view e.1)
json_at (e ∷ es) (suc i) = json_at es i

-- the value at a place stands for d
abbrev pub StandsFor : List Entry → ℕ → Data → Type 0
StandsFor all i d = (j : Json) × (json_at all i ≡ Some j) × (of_json j ≡ Some d)

-- the places are those of the members
abbrev pub ArePlaced : List Entry → List (Bor (List ℕ) × ℕ) → Members → Type 0
ArePlaced all [] no_members = ⊤
ArePlaced all [] (member k d ms) = ⊥
ArePlaced all (e ∷ es) no_members = ⊥
ArePlaced all (e ∷ es) (member k d ms) =
    (e.0.now ≡ k) × StandsFor all e.1 d × ArePlaced all es ms

-- the keys ascend
abbrev pub HasKeys : Members → Type 0
HasKeys no_members = ⊤
HasKeys (member k d ms) = IsBelow k ms × HasKeys ms
