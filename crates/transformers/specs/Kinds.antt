-- The relations that the plain transformers keep between input and output, and which inputs they
-- take.
use Rattle.std.specs.Prelude.{◌≡◌, ◌<◌, ◌≤◌, ℕ, List, [], ◌∷◌, false, Some, IsSome}
use Rattle.std.specs.Str.{IsUtf8}
use Rattle.hex.specs.Hex.{encode_lower}
use Rattle.serde_json.specs.Data.{Data, depth}
use Rattle.serde_json.specs.Read.{read}
use Rattle.serde_json.specs.Written.{compact_text, has_float}
use Rattle.transformers.specs.Item.{denoted}
use Rattle.transformers.specs.Shortest.{shortest}

-- ---- CBOR (RFC 8949) to JSON (RFC 8259): both denote one value, and the output is compact, with
-- its keys in the order of their bytes

pub record CborToJson (input output : List ℕ) : Type 0 where
  pub value : Data
  pub from : denoted input ≡ Some value
  pub utf8 : IsUtf8 output
  pub to : read output ≡ Some value
  pub compact : output ≡ compact_text value

abbrev pub TakesCbor : List ℕ → Type 0
TakesCbor input = IsSome (denoted input)

-- ---- JSON to CBOR: both denote one value, and the output has the shortest heads, with its keys in
-- the order of their bytes

-- A value of the profile has no number that isn't whole, and is nested at most 32 deep.
pub record IsInProfile (d : Data) : Type 0 where
  pub whole : has_float d ≡ false
  pub nested : depth d ≤ 32

pub record JsonToCbor (input output : List ℕ) : Type 0 where
  pub value : Data
  pub utf8 : IsUtf8 input
  pub from : read input ≡ Some value
  pub profile : IsInProfile value
  pub to : denoted output ≡ Some value
  pub shortest : output ≡ shortest value

pub record TakesJson (input : List ℕ) : Type 0 where
  pub value : Data
  pub utf8 : IsUtf8 input
  pub from : read input ≡ Some value
  pub profile : IsInProfile value

-- ---- bytes to their hexadecimal digits, in lower case; all bytes are taken

abbrev pub OctetsToHex : List ℕ → List ℕ → Type 0
OctetsToHex input output = output ≡ encode_lower input

abbrev pub TakesOctets : List ℕ → Type 0
TakesOctets input = Unit {0}

-- ---- for the laws

-- z is the shortest encoding of what x denotes
pub record IsShortestOf (x z : List ℕ) : Type 0 where
  pub value : Data
  pub from : denoted x ≡ Some value
  pub to : denoted z ≡ Some value
  pub shortest : z ≡ shortest value

abbrev pub IsBytes : List ℕ → Type 0
IsBytes [] = Unit {0}
IsBytes (b ∷ bytes) = (b < 256) × IsBytes bytes
