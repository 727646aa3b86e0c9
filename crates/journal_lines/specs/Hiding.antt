-- What is shown of a datagram whose payload is hidden.
use Rattle.std.specs.Prelude.{◌≡◌, ℕ, List, length, replicate}
use Rattle.coap_codec.specs.Spelling.{Content, Spells}

-- so many `*`
abbrev pub stars : ℕ → List ℕ
stars n = replicate n 42

-- the message with stars for its payload
abbrev pub starred : Content → Content
starred m = record m { payload = stars (length m.payload) }

-- A message is shown with `*` for each byte of its payload. Bytes that spell no message are shown
-- as so many `*`.
pub record Hides (bytes shown : List ℕ) : Type 0 where
  pub message : (m : Content) → Spells m bytes → Spells (starred m) shown
  pub other : ((m : Content) → Spells m bytes → ⊥) → shown ≡ stars (length bytes)
