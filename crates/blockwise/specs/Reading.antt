-- What a response says by its Block options.
use Rattle.std.specs.Prelude.{◌≡◌, ℕ, ◌/◌, ◌%◌, ◌+◌, ◌*◌, ◌^◌, Bool, true, false, not, ◌&&◌, List, Option, Some, None, option_map, ◌==◌}
use Rattle.coap_codec.specs.Spelling.{Content}
use Rattle.coap_codec.specs.declared.block.Block.{Block}
use Rattle.coap_codec.specs.Recognition.{is_defined, value_of}
use Rattle.coap_codec.specs.Values.{uint}

abbrev pub IsDefined : ℕ → List ℕ → Type 0
IsDefined number value = is_defined (record { number = number; value = value }) ≡ true

-- the block that a value stands for: its number, whether more follow, and the size exponent
-- (RFC 7959, section 2.2)
abbrev pub block_by : List ℕ → Block
block_by value = record {
  num = uint value / 16;
  more = (uint value / 8) % 2 == 1;
  szx = uint value % 8;
}

-- Block1 (27) or Block2 (23)
abbrev pub block_in : ℕ → Content → Option Block
block_in number m = option_map block_by (value_of number m)

abbrev pub size_of : ℕ → ℕ
size_of szx = 2 ^ (szx + 4)

-- Without a Block option a body goes whole: as its first piece and the last.
abbrev pub goes_on : Option Block → Bool
goes_on None = false
goes_on (Some b) = b.more

abbrev pub offset_in : Option Block → ℕ
offset_in None = 0
offset_in (Some b) = b.num * size_of b.szx

-- The block is the first and the last (RFC 7959, section 2.2).
pub record IsOnlyBlock (b : Block) : Type 0 where
  pub first : b.num ≡ 0
  pub last : b.more ≡ false

-- Nothing stands before it or after it: it comes without a Block option, or as the only block.
abbrev pub IsAlone : Option Block → Type 0
IsAlone None = Unit {0}
IsAlone (Some b) = IsOnlyBlock b

abbrev pub is_alone : Option Block → Bool
is_alone None = true
is_alone (Some b) = (b.num == 0) && not b.more

-- The answer names the piece of this number by its Block1, or none, whatever more and the size say:
-- more set repeats what the piece said, or says that its code isn't the final one (RFC 7959,
-- section 2.3), and a size may be a hint (section 2.9.3).
abbrev pub names_piece : ℕ → Option Block → Bool
names_piece num None = true
names_piece num (Some b) = b.num == num

-- The message answers piece `num` of a body, and all of that answer is here. A body that is sent
-- whole is piece 0. No more of a response is fetched here, so its Block2, if it has one, has to
-- name the only block, of whatever size.
abbrev pub answers_piece : ℕ → Content → Bool
answers_piece num m = names_piece num (block_in 27 m) && is_alone (block_in 23 m)
