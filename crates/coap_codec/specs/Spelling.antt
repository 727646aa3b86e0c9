-- What a message is, and which bytes it has (RFC 7252, section 3).
use Rattle.std.specs.Prelude.{◌≡◌, ℕ, ◌+◌, ◌*◌, ◌<◌, ◌≤◌, List, [], ◌∷◌, ◌++◌, length, map}
use Rattle.coap_codec.specs.declared.message.MsgType.{MsgType}
use Rattle.coap_codec.specs.declared.message.MsgType.TheVariants.{Con, Non, Ack, Rst}
use Rattle.coap_codec.specs.declared.opt.Opt.{Opt}
use Rattle.coap_codec.specs.declared.message.Message.{Message}

-- an option without where it lies in memory
pub record Entry : Type 0 where
  pub number : ℕ
  pub value : List ℕ

abbrev pub entry : Opt → Entry
entry o = record { number = o.number; value = o.value.items }

abbrev pub entries : List Opt → List Entry
entries os = map entry os

-- a message without where it lies in memory
pub record Content : Type 0 where
  pub kind : MsgType
  pub code : ℕ
  pub mid : ℕ
  pub token : List ℕ
  pub options : List Entry
  pub payload : List ℕ

abbrev pub content : Message → Content
content m = record {
  kind = m.kind;
  code = m.code;
  mid = m.mid;
  token = m.token;
  options = entries m.options.items;
  payload = m.payload.items;
}

abbrev pub code_of : MsgType → ℕ
code_of Con = 0
code_of Non = 1
code_of Ack = 2
code_of Rst = 3

-- A nibble and the bytes that extend it stand for a number.
abbrev pub StandsFor : ℕ → List ℕ → ℕ → Type 0
StandsFor nibble [] n = (nibble < 13) × (n ≡ nibble)
StandsFor nibble (a ∷ []) n = (nibble ≡ 13) × (n ≡ a + 13) × (a < 256)
StandsFor nibble (a ∷ b ∷ []) n = (nibble ≡ 14) × (n ≡ 256 * a + b + 269) × (b < 256)
StandsFor nibble (a ∷ b ∷ c ∷ more) n = ⊥

-- The bytes of an option after one of the number before: two nibbles, what extends the first, what
-- extends the second, and the value.
pub record SpellsOption (before : ℕ) (o : Entry) (text : List ℕ) : Type 0 where
  pub delta : ℕ
  pub delta_nibble : ℕ
  pub delta_more : List ℕ
  pub length_nibble : ℕ
  pub length_more : List ℕ
  pub number : o.number ≡ before + delta
  pub in_range : o.number < 65536
  pub delta_is : StandsFor delta_nibble delta_more delta
  pub length_is : StandsFor length_nibble length_more (length o.value)
  pub whole : text ≡ (16 * delta_nibble + length_nibble) ∷ delta_more ++ length_more ++ o.value

-- The bytes of options are those of the first, and then those of the others.
abbrev pub SpellsOptions : ℕ → List Entry → List ℕ → Type 0
SpellsOptions before [] text = text ≡ []
SpellsOptions before (o ∷ os) text = (front : List ℕ) × (rest : List ℕ) × (text ≡ front ++ rest)
    × SpellsOption before o front × SpellsOptions o.number os rest

-- No payload has no bytes, and any other stands after a marker.
abbrev pub SpellsPayload : List ℕ → List ℕ → Type 0
SpellsPayload [] text = text ≡ []
SpellsPayload (p ∷ ps) text = text ≡ 255 ∷ p ∷ ps

-- The message has these bytes.
pub record Spells (m : Content) (bytes : List ℕ) : Type 0 where
  pub options : List ℕ
  pub payload : List ℕ
  pub mid_high : ℕ
  pub mid_low : ℕ
  pub short_token : length m.token ≤ 8
  pub mid : m.mid ≡ 256 * mid_high + mid_low
  pub mid_low_is_byte : mid_low < 256
  pub options_are : SpellsOptions 0 m.options options
  pub payload_is : SpellsPayload m.payload payload
  pub nothing_else : m.code ≡ 0 → (m.token ≡ []) × (m.options ≡ []) × (m.payload ≡ [])
  pub whole : bytes ≡ (64 + 16 * code_of m.kind + length m.token) ∷ m.code ∷ mid_high ∷ mid_low
      ∷ m.token ++ options ++ payload
