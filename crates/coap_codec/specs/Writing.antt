-- What can be written, and what the writers append (RFC 7252, section 3).
use Rattle.std.specs.Prelude.{◌≡◌, ℕ, ◌+◌, ◌-◌, ◌*◌, ◌/◌, ◌%◌, ◌≤◌, ◌<◌, List, [], ◌∷◌, ◌++◌, length, nat_lt, if◌then◌else◌}
use Rattle.std.specs.List.{AllByRecursion}
use Rattle.coap_codec.specs.declared.message.MsgType.{MsgType}
use Rattle.coap_codec.specs.Spelling.{Entry, Content, code_of, SpellsOption, SpellsOptions}

-- The options stand in the order of their numbers, of which the one before is given.
abbrev pub IsInOrder : ℕ → List Entry → Type 0
IsInOrder before [] = Unit {0}
IsInOrder before (o ∷ os) = (before ≤ o.number) × IsInOrder o.number os

-- The longest value is that of a Proxy-Uri (section 5.10).
abbrev pub IsShort : Entry → Type 0
IsShort o = length o.value ≤ 1034

-- What the caller of encode has to know.
pub record IsEncodable (m : Content) : Type 0 where
  pub in_order : IsInOrder 0 m.options
  pub short : AllByRecursion IsShort m.options
  pub nothing_else : m.code ≡ 0 → (m.token ≡ []) × (m.options ≡ []) × (m.payload ≡ [])

-- What the types of a message's fields say.
pub record IsInRange (m : Content) : Type 0 where
  pub token : length m.token ≤ 8
  pub mid : m.mid < 65536
  pub numbers : AllByRecursion (λ o. o.number < 65536) m.options

-- The nibble of a number, and the bytes that extend it (section 3.1).
abbrev pub nibble : ℕ → ℕ
nibble n = if nat_lt n 13 then n else (if nat_lt n 269 then 13 else 14)

abbrev pub more : ℕ → List ℕ
more n =
    if nat_lt n 13 then []
    else (if nat_lt n 269 then (n - 13) ∷ [] else ((n - 269) / 256) ∷ ((n - 269) % 256) ∷ [])

-- new is old with the bytes of the option after it
abbrev pub AppendsOption : ℕ → Entry → List ℕ → List ℕ → Type 0
AppendsOption before o old new = (front : List ℕ) × (new ≡ old ++ front)
    × SpellsOption before o front

abbrev pub AppendsOptions : List Entry → List ℕ → List ℕ → Type 0
AppendsOptions os old new = (text : List ℕ) × (new ≡ old ++ text) × SpellsOptions 0 os text

abbrev pub head_of : MsgType → ℕ → ℕ → List ℕ → List ℕ
head_of kind code mid token =
    (64 + 16 * code_of kind + length token) ∷ code ∷ (mid / 256) ∷ (mid % 256) ∷ token

abbrev pub head_text : Content → List ℕ
head_text m = head_of m.kind m.code m.mid m.token

abbrev pub payload_text : List ℕ → List ℕ
payload_text [] = []
payload_text (p ∷ ps) = 255 ∷ p ∷ ps
