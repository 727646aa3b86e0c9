-- What a pass over a CBOR item writes: the compact JSON text of the value that it denotes. For private
-- clauses.
use Rattle.std.specs.Prelude.{◌≡◌, ℕ, ◌<◌, ◌^◌, ◌++◌, negsuc, List, [], ◌∷◌, Bool, true, Option, Some, String, string_bytes, ⊤}
use Rattle.std.specs.Str.{IsUtf8}
use Rattle.std.specs.Ordering.{nat_cmp}
use Rattle.std.specs.Cmp.Lexicographic.{slice_cmp}
use Rattle.std.specs.declared.alloc.Global.{Global}
use Rattle.std.specs.declared.cmp.Ordering.TheVariants.{Less}
use Rattle.std.specs.declared.vec.Vec.{Vec}
use Rattle.json.specs.Print.{quoted}
use Rattle.serde_json.specs.Data.{Num, unsigned, negative, float, Data, null, boolean, number, string, array, object, Items, no_items, item, Members, no_members, member}
use Rattle.serde_json.specs.View.{items_of}
use Rattle.serde_json.specs.Written.{comma_if, compact_text}

-- ---- values that JSON has: whole numbers in range, texts of UTF-8, keys that ascend

abbrev pub IsInRange : Num → Type 0
IsInRange (unsigned n) = n < 2 ^ 64
IsInRange (negative z) = (n : ℕ) × (z ≡ negsuc n) × (n < 2 ^ 63)
IsInRange (float x) = ⊥

-- the key is below those of the members
abbrev pub IsBelow : List ℕ → Members → Type 0
IsBelow k no_members = ⊤
IsBelow k (member l d ms) = (slice_cmp nat_cmp k l ≡ Less) × IsBelow k ms

abbrev mutual
  pub IsSound : Data → Type 0
  IsSound null = ⊤
  IsSound (boolean b) = ⊤
  IsSound (number n) = IsInRange n
  IsSound (string s) = IsUtf8 s
  IsSound (array ds) = AreSound ds
  IsSound (object ms) = AreSoundMembers ms

  pub AreSound : Items → Type 0
  AreSound no_items = ⊤
  AreSound (item d ds) = IsSound d × AreSound ds

  pub AreSoundMembers : Members → Type 0
  AreSoundMembers no_members = ⊤
  AreSoundMembers (member k d ms) = IsUtf8 k × IsBelow k ms × IsSound d × AreSoundMembers ms

-- ---- what is written

-- What was read stands, as text, behind what was there.
pub record Tells {A : Type 0} (IsGood : A → Type 0) (text : A → List ℕ)
    (read : Option (A × List ℕ)) (rest old new : List ℕ) : Type 0 where
  pub value : A
  pub is : read ≡ Some (value, rest)
  pub good : IsGood value
  pub told : new ≡ old ++ text value

abbrev pub TellsItem : Option (Data × List ℕ) → List ℕ → List ℕ → List ℕ → Type 0
TellsItem = Tells IsSound compact_text

abbrev pub TellsItems : Option (List Data × List ℕ) → List ℕ → List ℕ → List ℕ → Type 0
TellsItems = Tells (λ ds. AreSound (items_of ds)) (λ ds. compact_text (array (items_of ds)))

abbrev pub TellsMembers : Option (Members × List ℕ) → List ℕ → List ℕ → List ℕ → Type 0
TellsMembers = Tells AreSoundMembers (λ ms. compact_text (object ms))

-- ---- the members of an object, each as text

abbrev pub Piece : Type 0
Piece = String Global × Vec ℕ Global

-- the pieces are the texts of the members
abbrev pub Hold : List Piece → Members → Type 0
Hold [] no_members = ⊤
Hold [] (member k d ms) = ⊥
Hold (e ∷ es) no_members = ⊥
Hold (e ∷ es) (member k d ms) =
    (string_bytes e.0 ≡ k) × (e.1.items ≡ compact_text d) × Hold es ms

-- the members that were read, and their pieces
pub record Holds (read : Option (Members × List ℕ)) (rest : List ℕ) (pieces : List Piece)
    : Type 0 where
  pub members : Members
  pub is : read ≡ Some (members, rest)
  pub good : AreSoundMembers members
  pub held : Hold pieces members

-- the pieces, with the brace that closes the object
abbrev pub pieces_text : Bool → List Piece → List ℕ
pieces_text later [] = 125 ∷ []
pieces_text later (e ∷ es) =
    comma_if later ++ (quoted (string_bytes e.0) ++ 58 ∷ (e.1.items ++ pieces_text true es))
