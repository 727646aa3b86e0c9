-- Bodies and states in pieces (RFC 7959, sections 2.2 to 2.4).
use Rattle.std.specs.Prelude.{◌≡◌, ◌<◌, ℕ, ◌+◌, ◌*◌, ◌/◌, ◌%◌, ◌^◌, min, List, [], ◌∷◌, length, take, drop, Option, Some, None, Bool, nat_lt, nat_le, ◌==◌, ◌&&◌, if◌then◌else◌}
use Rattle.limits.specs.declared.TheConstants.{MAX_BODY_LEN}
use Rattle.coap_codec.specs.Spelling.{Entry}
use Rattle.coap_codec.specs.Values.{uint, IsBlock, IsShortest}
use Rattle.coap_codec.specs.declared.block.Block.{Block}
use Rattle.blockwise.specs.Reading.{block_by, size_of}
use Rattle.demo_origin.specs.declared.blocks.Part.{Part}
use Rattle.demo_origin.specs.declared.blocks.Part.TheVariants.{Whole, Piece, Past}

-- A Block option has at most three bytes, and its size exponent isn't 7, which is reserved
-- (section 2.2).
abbrev pub is_block : List ℕ → Bool
is_block v = nat_le (length v) 3 && nat_lt (uint v % 8) 7

abbrev pub named_value : List ℕ → Option Block
named_value v = if is_block v then Some (block_by v) else None

-- the block that the first of the values names
abbrev pub named_by : List (List ℕ) → Option Block
named_by [] = None
named_by (v ∷ vs) = named_value v

-- the piece of a state that begins at that byte: all of it where it fits, and none past its end
abbrev pub part_at : ℕ → ℕ → ℕ → Part
part_at szx offset len =
    if (offset == 0) && nat_le len (size_of szx) then Whole
    else (if nat_lt offset (min len MAX_BODY_LEN) then Piece (record {
      num = offset / size_of szx;
      more = nat_lt (offset + size_of szx) len;
      szx = szx;
    }) else Past)

-- the piece that a Block2 asks for, in the smaller of its size and the device's (section 2.4)
abbrev pub part_of : Option Block → ℕ → ℕ → Part
part_of None own len = part_at own 0 len
part_of (Some b) own len = part_at (min b.szx own) (b.num * size_of b.szx) len

-- the bytes of that piece
abbrev pub piece_of : Block → List ℕ → List ℕ
piece_of b state = take (size_of b.szx) (drop (b.num * size_of b.szx) state)

-- the piece begins in a state of so many bytes, and a Block option can say its number
pub record BeginsIn (len : ℕ) (b : Block) : Type 0 where
  pub szx : b.szx < 7
  pub num : b.num < 2 ^ 20
  pub begins : b.num * size_of b.szx < len

abbrev pub IsIn : ℕ → Part → Type 0
IsIn len Whole = Unit {0}
IsIn len (Piece b) = BeginsIn len b
IsIn len Past = Unit {0}

abbrev pub IsSized : Option Block → Type 0
IsSized None = Unit {0}
IsSized (Some b) = (b.szx < 7) × (b.num < 2 ^ 20)

-- the options that say which piece it is
abbrev pub IsBlockOption : Option Block → List Entry → Type 0
IsBlockOption None options = options ≡ []
IsBlockOption (Some b) options =
    (value : List ℕ)
    × (options ≡ record { number = 23; value = value } ∷ [])
    × IsBlock b (uint value)
    × IsShortest value
