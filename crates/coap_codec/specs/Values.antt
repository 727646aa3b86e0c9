-- Values of options as numbers and as blocks.
use Rattle.std.specs.Prelude.{◌≡◌, ◌≢◌, ℕ, ◌+◌, ◌*◌, ◌^◌, ◌<◌, List, [], ◌∷◌, length, ◌==◌, if◌then◌else◌}
use Rattle.coap_codec.specs.declared.block.Block.{Block}
use Rattle.coap_codec.specs.Spelling.{Entry}

-- the number that the bytes stand for, the highest first (RFC 7252, section 3.2)
abbrev pub uint : List ℕ → ℕ
uint [] = 0
uint (b ∷ bytes) = b * 256 ^ length bytes + uint bytes

-- no zero leads
abbrev pub IsShortest : List ℕ → Type 0
IsShortest [] = Unit {0}
IsShortest (b ∷ bytes) = b ≢ 0

-- the number is the block's: its number, then whether more follow, then the size exponent, of which
-- 7 is reserved (RFC 7959, section 2.2)
pub record IsBlock (b : Block) (n : ℕ) : Type 0 where
  pub parts : n ≡ 16 * b.num + (if b.more then 8 else 0) + b.szx
  pub szx : b.szx < 7

-- the values of the options of the number, in order
abbrev pub values : ℕ → List Entry → List (List ℕ)
values number [] = []
values number (o ∷ os) = if o.number == number then o.value ∷ values number os else values number os
