-- Whether a GET names the state as it stands by an ETag (RFC 7252, section 5.10.6.2).
use Rattle.std.specs.Prelude.{ℕ, List, Option, Some, None, Bool, true, ◌==◌, ◌&&◌}
use Rattle.std.specs.Int.{to_be_bytes, w64}
use Rattle.std.specs.List.{list_any}
use Rattle.std.specs.Str.{bytes_eq}
use Rattle.coap_codec.specs.declared.block.Block.{Block}

-- the ETag of that version
abbrev pub is_tag : ℕ → List ℕ → Bool
is_tag version value = bytes_eq value (to_be_bytes w64 version)

-- one of them is
abbrev pub has_tag : ℕ → List (List ℕ) → Bool
has_tag version tags = list_any (is_tag version) tags

-- no later piece is asked for
abbrev pub is_opening : Option Block → Bool
is_opening None = true
is_opening (Some b) = b.num == 0

-- A GET with these ETags and that Block2 is told that the state is valid still.
abbrev pub is_valid : List (List ℕ) → Option Block → ℕ → Bool
is_valid tags named version = is_opening named && has_tag version tags
