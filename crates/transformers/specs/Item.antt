-- What CBOR bytes denote (RFC 8949 section 3), in this profile: whole numbers of -2^63 to 2^64 - 1,
-- text, arrays, maps whose keys are texts that differ, false, true and null. A value is one of
-- `serde_json`.
use Rattle.std.specs.Prelude.{ℕ, zero, suc, ◌+◌, ◌*◌, ◌/◌, ◌%◌, ◌^◌, ◌==◌, ◌++◌, negsuc, List, [], ◌∷◌, length, take, drop, Bool, true, false, ltb, if◌then◌else◌, Option, Some, None, is_some}
use Rattle.std.specs.Option.{option_or}
use Rattle.std.specs.Str.{is_utf8}
use Rattle.serde_json.specs.Data.{unsigned, negative, Data, null, boolean, number, string, array, object, Members, no_members, put}
use Rattle.serde_json.specs.Find.{get_member}
use Rattle.serde_json.specs.View.{items_of}
use Rattle.transformers.specs.declared.head.Major.{Major}
use Rattle.transformers.specs.declared.head.Major.TheVariants.{Unsigned, Negative, Text, Array, Map}

infixl 10 ◌>>=◌
abbrev pub ◌>>=◌ : {A B : Type 0} → Option A → (A → Option B) → Option B
(Some x) >>= f = f x
None >>= f = None

-- ---- the head of an item: its major type and its argument (section 3)

-- the number in the first byte, and what follows
abbrev pub byte_at : List ℕ → Option (ℕ × List ℕ)
byte_at [] = None
byte_at (b ∷ bytes) = Some (b, bytes)

-- the number in 2, 4 and 8 bytes, the highest first
unfoldable pub two_at : List ℕ → Option (ℕ × List ℕ)
two_at bytes = do
  high ← byte_at bytes
  low ← byte_at high.1
  Some (256 * high.0 + low.0, low.1)

unfoldable pub four_at : List ℕ → Option (ℕ × List ℕ)
four_at bytes = do
  high ← two_at bytes
  low ← two_at high.1
  Some (65536 * high.0 + low.0, low.1)

unfoldable pub eight_at : List ℕ → Option (ℕ × List ℕ)
eight_at bytes = do
  high ← four_at bytes
  low ← four_at high.1
  Some (4294967296 * high.0 + low.0, low.1)

-- Additional information below 24 is the argument itself, and 24 to 27 say that it follows in 1, 2,
-- 4 or 8 bytes.
unfoldable pub argument_at : ℕ → List ℕ → Option (ℕ × List ℕ)
argument_at information bytes =
    if ltb information 24 then Some (information, bytes) else (
    if information == 24 then byte_at bytes else (
    if information == 25 then two_at bytes else (
    if information == 26 then four_at bytes else (
    if information == 27 then eight_at bytes else None))))

-- section 3.1
unfoldable pub major_of : ℕ → Option Major
major_of n =
    if n == 0 then Some Unsigned else (
    if n == 1 then Some Negative else (
    if n == 3 then Some Text else (
    if n == 4 then Some Array else (
    if n == 5 then Some Map else None))))

-- the major type is the first byte's three high bits, the additional information its five low ones
unfoldable pub head_at : List ℕ → Option (Major × ℕ × List ℕ)
head_at bytes = do
  first ← byte_at bytes
  major ← major_of (first.0 / 32)
  argument ← argument_at (first.0 % 32) first.1
  Some (major, argument.0, argument.1)

-- ---- items (section 3.1)

-- so many bytes of UTF-8
unfoldable pub text_at : ℕ → List ℕ → Option (List ℕ × List ℕ)
text_at n bytes =
    if ltb (length bytes) n then None
    else (if is_utf8 (take n bytes) then Some (take n bytes, drop n bytes) else None)

-- -1 - n, where it isn't below -2^63
unfoldable pub negative_of : ℕ → Option Data
negative_of n = if ltb n (2 ^ 63) then Some (number (negative (negsuc n))) else None

-- n pieces one after the other, each of which adds to what was found before
unfoldable pub many_at : {A : Type 0} → (A → List ℕ → Option (A × List ℕ)) → ℕ → A → List ℕ
    → Option (A × List ℕ)
many_at one zero found bytes = Some (found, bytes)
many_at one (suc n) found bytes = one found bytes >>= λ x. many_at one n x.0 x.1

-- one more item of an array
unfoldable pub next_item : (List ℕ → Option (Data × List ℕ)) → List Data → List ℕ
    → Option (List Data × List ℕ)
next_item one found bytes = one bytes >>= λ x. Some (found ++ x.0 ∷ [], x.1)

-- a key is a text
abbrev pub key_of : Major → ℕ → List ℕ → Option (List ℕ × List ℕ)
key_of Text n bytes = text_at n bytes
key_of Unsigned n bytes = None
key_of Negative n bytes = None
key_of Array n bytes = None
key_of Map n bytes = None

unfoldable pub key_at : List ℕ → Option (List ℕ × List ℕ)
key_at bytes = head_at bytes >>= λ h. key_of h.0 h.1 h.2

-- the members with one more, unless its key is there
unfoldable pub put_new : List ℕ → Data → Members → Option Members
put_new key value found =
    if is_some (get_member key found) then None else Some (put key value found)

-- one more member of a map
unfoldable pub next_member : (List ℕ → Option (Data × List ℕ)) → Members → List ℕ
    → Option (Members × List ℕ)
next_member one found bytes = do
  key ← key_at bytes
  value ← one key.1
  members ← put_new key.0 value.0 found
  Some (members, value.1)

unfoldable pub array_at : (List ℕ → Option (Data × List ℕ)) → ℕ → List ℕ → Option (Data × List ℕ)
array_at one n bytes = many_at (next_item one) n [] bytes >>= λ x. Some (array (items_of x.0), x.1)

unfoldable pub map_at : (List ℕ → Option (Data × List ℕ)) → ℕ → List ℕ → Option (Data × List ℕ)
map_at one n bytes = many_at (next_member one) n no_members bytes >>= λ x. Some (object x.0, x.1)

-- What follows a head. What is inside an array or a map is read by inner, if one may be opened.
abbrev pub body_at : Option (List ℕ → Option (Data × List ℕ)) → Major → ℕ → List ℕ
    → Option (Data × List ℕ)
body_at inner Unsigned n bytes = Some (number (unsigned n), bytes)
body_at inner Negative n bytes = negative_of n >>= λ d. Some (d, bytes)
body_at inner Text n bytes = text_at n bytes >>= λ t. Some (string t.0, t.1)
body_at inner Array n bytes = inner >>= λ one. array_at one n bytes
body_at inner Map n bytes = inner >>= λ one. map_at one n bytes

-- false, true and null
abbrev pub simple_data : Option Bool → Data
simple_data None = null
simple_data (Some b) = boolean b

-- they are the bytes f4, f5 and f6 (section 3.3)
unfoldable pub simple_at : List ℕ → Option (Data × List ℕ)
simple_at [] = None
simple_at (b ∷ bytes) =
    if b == 244 then Some (boolean false, bytes) else (
    if b == 245 then Some (boolean true, bytes) else (
    if b == 246 then Some (null, bytes) else None))

abbrev pub item_in : Option (List ℕ → Option (Data × List ℕ)) → List ℕ → Option (Data × List ℕ)
item_in inner bytes = option_or (simple_at bytes) (head_at bytes >>= λ h. body_at inner h.0 h.1 h.2)

-- the item at the front, with at most so many arrays and maps within each other, and what follows
unfoldable pub item_at : ℕ → List ℕ → Option (Data × List ℕ)
item_at zero bytes = item_in None bytes
item_at (suc levels) bytes = item_in (Some (item_at levels)) bytes

-- what reads inside an array or a map
abbrev pub inner_of : ℕ → Option (List ℕ → Option (Data × List ℕ))
inner_of zero = None
inner_of (suc levels) = Some (item_at levels)

-- ---- a whole input: one item, nested at most 32 deep, and nothing after it

abbrev pub only : Data → List ℕ → Option Data
only d [] = Some d
only d (b ∷ bytes) = None

unfoldable pub denoted : List ℕ → Option Data
denoted bytes = item_at 32 bytes >>= λ x. only x.0 x.1
