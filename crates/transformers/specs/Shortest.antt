-- How a value is written in CBOR: each head as short as it can be (RFC 8949 section 4.1), the keys
-- of a map in order of their bytes.
use Rattle.std.specs.Prelude.{ℕ, ◌+◌, ◌*◌, ◌/◌, ◌%◌, ◌++◌, ℤ, pos, negsuc, List, [], ◌∷◌, length, ltb, if◌then◌else◌}
use Rattle.serde_json.specs.Data.{Num, unsigned, negative, float, Data, null, boolean, number, string, array, object, Items, no_items, item, Members, no_members, member}
use Rattle.serde_json.specs.Events.{items_len, members_len}
use Rattle.transformers.specs.declared.head.Major.{Major}
use Rattle.transformers.specs.declared.head.Major.TheVariants.{Unsigned, Negative, Text, Array, Map}

-- a number in 2, 4 and 8 bytes, the highest first
abbrev pub two_bytes : ℕ → List ℕ
two_bytes n = n / 256 ∷ n % 256 ∷ []

unfoldable pub four_bytes : ℕ → List ℕ
four_bytes n = two_bytes (n / 65536) ++ two_bytes (n % 65536)

unfoldable pub eight_bytes : ℕ → List ℕ
eight_bytes n = four_bytes (n / 4294967296) ++ four_bytes (n % 4294967296)

-- the number of a major type (section 3.1)
abbrev pub number_of : Major → ℕ
number_of Unsigned = 0
number_of Negative = 1
number_of Text = 3
number_of Array = 4
number_of Map = 5

-- the shortest head with this argument
unfoldable pub shortest_head : Major → ℕ → List ℕ
shortest_head major n =
    if ltb n 24 then (32 * number_of major + n) ∷ [] else (
    if ltb n 256 then (32 * number_of major + 24) ∷ n ∷ [] else (
    if ltb n 65536 then (32 * number_of major + 25) ∷ two_bytes n else (
    if ltb n 4294967296 then (32 * number_of major + 26) ∷ four_bytes n else
    (32 * number_of major + 27) ∷ eight_bytes n)))

-- n, where z is -1 - n
abbrev pub below : ℤ → ℕ
below (pos n) = 0
below (negsuc n) = n

-- A float has no text: it isn't in the profile.
abbrev pub number_bytes : Num → List ℕ
number_bytes (unsigned n) = shortest_head Unsigned n
number_bytes (negative z) = shortest_head Negative (below z)
number_bytes (float x) = []

unfoldable pub text_bytes : List ℕ → List ℕ
text_bytes s = shortest_head Text (length s) ++ s

abbrev mutual
  pub shortest : Data → List ℕ
  shortest null = 246 ∷ []
  shortest (boolean b) = (if b then 245 else 244) ∷ []
  shortest (number n) = number_bytes n
  shortest (string s) = text_bytes s
  shortest (array ds) = shortest_head Array (items_len ds) ++ items_bytes ds
  shortest (object ms) = shortest_head Map (members_len ms) ++ members_bytes ms

  pub items_bytes : Items → List ℕ
  items_bytes no_items = []
  items_bytes (item d ds) = shortest d ++ items_bytes ds

  pub members_bytes : Members → List ℕ
  members_bytes no_members = []
  members_bytes (member k d ms) = text_bytes k ++ (shortest d ++ members_bytes ms)
