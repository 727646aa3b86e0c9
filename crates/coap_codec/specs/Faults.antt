-- The first fault of bytes that are no message (RFC 7252, section 3): what stands in front of it is
-- spelled, and the piece that stands there has it.
use Rattle.std.specs.Prelude.{◌≡◌, ◌≢◌, ℕ, ◌+◌, ◌*◌, ◌/◌, ◌%◌, ◌<◌, ◌≤◌, List, [], ◌∷◌, ◌++◌, length, ◌==◌, ◌⊎◌, if◌then◌else◌}
use Rattle.coap_codec.specs.declared.fault.CodecFault.{CodecFault}
use Rattle.coap_codec.specs.declared.fault.CodecFault.TheVariants.{Short, Version, TokenLength, Reserved, Truncated, EmptyPayload, EmptyExtra, Number, Memory}
use Rattle.coap_codec.specs.declared.message.MsgType.{MsgType}
use Rattle.coap_codec.specs.Spelling.{Entry, code_of, StandsFor, SpellsOptions}

-- ---- the header

-- The bytes begin with a header that is good: version 1, this token length, and nothing else in an
-- empty message. After it stands the rest.
pub record HasHeader (bytes : List ℕ) (token_length : ℕ) (rest : List ℕ) : Type 0 where
  pub kind : MsgType
  pub code : ℕ
  pub mid_high : ℕ
  pub mid_low : ℕ
  pub short_token : token_length ≤ 8
  pub nothing_else : code ≡ 0 → (token_length ≡ 0) × (rest ≡ [])
  pub whole : bytes ≡ (64 + 16 * code_of kind + token_length) ∷ code ∷ mid_high ∷ mid_low ∷ rest

-- The first byte, the code, and what stands after the header, are so.
abbrev pub HeaderIs : List ℕ → (ℕ → ℕ → List ℕ → Type 0) → Type 0
HeaderIs [] P = ⊥
HeaderIs (first ∷ []) P = ⊥
HeaderIs (first ∷ code ∷ []) P = ⊥
HeaderIs (first ∷ code ∷ high ∷ []) P = ⊥
HeaderIs (first ∷ code ∷ high ∷ low ∷ rest) P = P first code rest

-- ---- an option that begins with a byte, of which the rest stands after

abbrev pub extension_length : ℕ → ℕ
extension_length nibble = if nibble == 13 then 1 else (if nibble == 14 then 2 else 0)

-- Neither nibble is reserved, and the delta is there, with the others after it.
pub record HasDelta (first : ℕ) (rest : List ℕ) (delta : ℕ) (others : List ℕ) : Type 0 where
  pub delta_nibble : first / 16 < 15
  pub length_nibble : first % 16 < 15
  pub more : List ℕ
  pub delta_is : StandsFor (first / 16) more delta
  pub parts : rest ≡ more ++ others

-- The number is in range too, and the length is there.
pub record HasLength (before first : ℕ) (rest : List ℕ) (len : ℕ) (others : List ℕ) : Type 0 where
  pub delta : ℕ
  pub behind_delta : List ℕ
  pub delta_is : HasDelta first rest delta behind_delta
  pub in_range : before + delta < 65536
  pub more : List ℕ
  pub length_is : StandsFor (first % 16) more len
  pub parts : behind_delta ≡ more ++ others

abbrev pub IsReserved : ℕ → Type 0
IsReserved first = (first ≢ 255) × ((first / 16 ≡ 15) ⊎ (first % 16 ≡ 15))

abbrev pub PassesNumbers : ℕ → ℕ → List ℕ → Type 0
PassesNumbers before first rest = (delta : ℕ) × (others : List ℕ) × HasDelta first rest delta others
    × (65535 < before + delta)

-- Bytes of the delta are missing.
abbrev pub EndsInDelta : ℕ → List ℕ → Type 0
EndsInDelta first rest = (first / 16 < 15) × (first % 16 < 15)
    × (length rest < extension_length (first / 16))

-- Bytes of the length are missing.
abbrev pub EndsInLength : ℕ → ℕ → List ℕ → Type 0
EndsInLength before first rest = (delta : ℕ) × (others : List ℕ) × HasDelta first rest delta others
    × (before + delta < 65536) × (length others < extension_length (first % 16))

-- Bytes of the value are missing.
abbrev pub EndsInValue : ℕ → ℕ → List ℕ → Type 0
EndsInValue before first rest = (len : ℕ) × (others : List ℕ)
    × HasLength before first rest len others × (length others < len)

-- The option has the fault.
abbrev pub OptionFault : ℕ → ℕ → List ℕ → CodecFault → Type 0
OptionFault before first rest Reserved = IsReserved first
OptionFault before first rest Number = PassesNumbers before first rest
OptionFault before first rest Truncated = EndsInDelta first rest ⊎ EndsInLength before first rest
    ⊎ EndsInValue before first rest
OptionFault before first rest Short = ⊥
OptionFault before first rest Version = ⊥
OptionFault before first rest TokenLength = ⊥
OptionFault before first rest EmptyPayload = ⊥
OptionFault before first rest EmptyExtra = ⊥
OptionFault before first rest Memory = ⊥

-- ---- the message

-- the number of the last option, or the one before all
abbrev pub last_number : ℕ → List Entry → ℕ
last_number before [] = before
last_number before (o ∷ os) = last_number o.number os

-- The header, the token and some options are spelled, and after them stands the tail.
pub record HasOptions (bytes : List ℕ) (options : List Entry) (tail : List ℕ) : Type 0 where
  pub token : List ℕ
  pub text : List ℕ
  pub header : HasHeader bytes (length token) (token ++ text ++ tail)
  pub spelled : SpellsOptions 0 options text

abbrev pub EndsInToken : List ℕ → Type 0
EndsInToken bytes = (len : ℕ) × (rest : List ℕ) × HasHeader bytes len rest × (length rest < len)

-- After options that are spelled stands one with the fault.
pub record FaultInOptions (bytes : List ℕ) (f : CodecFault) : Type 0 where
  pub good : List Entry
  pub first : ℕ
  pub rest : List ℕ
  pub in_front : HasOptions bytes good (first ∷ rest)
  pub fault : OptionFault (last_number 0 good) first rest f

-- After the options stands a payload marker alone.
abbrev pub EndsInMarker : List ℕ → Type 0
EndsInMarker bytes = (options : List Entry) × HasOptions bytes options (255 ∷ [])

-- The first fault.
abbrev pub FirstFault : List ℕ → CodecFault → Type 0
FirstFault bytes Short = length bytes < 4
FirstFault bytes Version = HeaderIs bytes (λ first code rest. first / 64 ≢ 1)
FirstFault bytes TokenLength =
    HeaderIs bytes (λ first code rest. (first / 64 ≡ 1) × (8 < first % 16))
FirstFault bytes EmptyExtra = HeaderIs bytes (λ first code rest.
    (first / 64 ≡ 1) × (first % 16 ≤ 8) × (code ≡ 0) × ((0 < first % 16) ⊎ (0 < length rest)))
FirstFault bytes Truncated = EndsInToken bytes ⊎ FaultInOptions bytes Truncated
FirstFault bytes Reserved = FaultInOptions bytes Reserved
FirstFault bytes Number = FaultInOptions bytes Number
FirstFault bytes EmptyPayload = EndsInMarker bytes
FirstFault bytes Memory = ⊥
