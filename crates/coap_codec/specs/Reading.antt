-- Reading from left to right, with the first fault that is met.
use Rattle.std.specs.Prelude.{◌≡◌, ℕ, zero, suc, ◌+◌, ◌*◌, ◌/◌, ◌%◌, List, [], ◌∷◌, length, take, drop, Option, Some, None, Result, Ok, Err, IsOk, nat_lt, ◌==◌, ◌||◌, ◌&&◌, ◌⊎◌, if◌then◌else◌}
use Rattle.coap_codec.specs.declared.fault.CodecFault.{CodecFault}
use Rattle.coap_codec.specs.declared.fault.CodecFault.TheVariants.{Short, Version, TokenLength, Reserved, Truncated, EmptyPayload, EmptyExtra, Number, Memory}
use Rattle.coap_codec.specs.declared.message.MsgType.{MsgType}
use Rattle.coap_codec.specs.declared.message.MsgType.TheVariants.{Con, Non, Ack, Rst}
use Rattle.coap_codec.specs.Spelling.{Entry, Content}

infixl 10 ◌>>=◌
abbrev pub ◌>>=◌ : {A B : Type 0} → Result A CodecFault → (A → Result B CodecFault)
    → Result B CodecFault
(Ok x) >>= f = f x
(Err e) >>= f = Err e

-- What a function returned, seen by view, is what reading gives.
abbrev pub Reads : {X Y : Type 0} → (X → Y) → Result X CodecFault → Result Y CodecFault → Type 0
Reads view (Ok x) read = read ≡ Ok (view x)
Reads view (Err e) read = read ≡ Err e

-- The number that a nibble and the bytes after it stand for, and the bytes after those.
abbrev pub one_more : List ℕ → Result (ℕ × List ℕ) CodecFault
one_more [] = Err Truncated
one_more (a ∷ rest) = Ok (a + 13, rest)

abbrev pub two_more : List ℕ → Result (ℕ × List ℕ) CodecFault
two_more [] = Err Truncated
two_more (a ∷ []) = Err Truncated
two_more (a ∷ b ∷ rest) = Ok (256 * a + b + 269, rest)

abbrev pub extended_at : ℕ → List ℕ → Result (ℕ × List ℕ) CodecFault
extended_at nibble bytes =
    if nat_lt nibble 13 then Ok (nibble, bytes)
    else (if nibble == 13 then one_more bytes else two_more bytes)

-- The value of so many bytes, and the bytes after it.
abbrev pub value_at : ℕ → List ℕ → Result (List ℕ × List ℕ) CodecFault
value_at len bytes =
    if nat_lt (length bytes) len then Err Truncated else Ok (take len bytes, drop len bytes)

-- The option that begins with the byte, after one of the number before.
unfoldable pub option_at : ℕ → ℕ → List ℕ → Result (Entry × List ℕ) CodecFault
option_at before first bytes =
    if (first / 16 == 15) || (first % 16 == 15) then Err Reserved else (do
      delta ← extended_at (first / 16) bytes
      if nat_lt 65535 (before + delta.0) then Err Number else (do
        len ← extended_at (first % 16) delta.1
        value ← value_at len.0 len.1
        Ok (record { number = before + delta.0; value = value.0 }, value.1)))

-- The next option, where there is one before the end or the payload marker, and the bytes after it.
unfoldable pub next_at : ℕ → List ℕ → Result (Option (Entry × List ℕ)) CodecFault
next_at before [] = Ok None
next_at before (b ∷ bytes) = if b == 255 then Ok None else (do
  first ← option_at before b bytes
  Ok (Some first))

-- The options up to the end or the payload marker, and the bytes after them. Each option takes at
-- least one byte, so as many rounds as there are bytes are enough.
unfoldable pub options_at : ℕ → ℕ → List ℕ → Result (List Entry × List ℕ) CodecFault
options_at zero before bytes = Ok ([], bytes)
options_at (suc rounds) before [] = Ok ([], [])
options_at (suc rounds) before (b ∷ bytes) = if b == 255 then Ok ([], b ∷ bytes) else (do
  first ← option_at before b bytes
  others ← options_at rounds first.0.number first.1
  Ok (first.0 ∷ others.0, others.1))

abbrev pub all_options_at : List ℕ → Result (List Entry × List ℕ) CodecFault
all_options_at bytes = options_at (length bytes) 0 bytes

abbrev pub only_options : List ℕ → Result (List Entry) CodecFault
only_options bytes = all_options_at bytes >>= λ x. Ok x.0

abbrev pub only_rest : List ℕ → Result (List ℕ) CodecFault
only_rest bytes = all_options_at bytes >>= λ x. Ok x.1

-- The payload after the options: nothing, or what stands after the marker.
abbrev pub payload_at : List ℕ → Result (List ℕ) CodecFault
payload_at [] = Ok []
payload_at (marker ∷ []) = Err EmptyPayload
payload_at (marker ∷ p ∷ ps) = Ok (p ∷ ps)

abbrev pub kind_of : ℕ → MsgType
kind_of zero = Con
kind_of (suc zero) = Non
kind_of (suc (suc zero)) = Ack
kind_of (suc (suc (suc n))) = Rst

pub record Head : Type 0 where
  pub kind : MsgType
  pub code : ℕ
  pub mid : ℕ
  pub len : ℕ

-- The first four bytes, and the bytes after them. The empty message has no others.
abbrev pub head_at : List ℕ → Result (Head × List ℕ) CodecFault
head_at [] = Err Short
head_at (a ∷ []) = Err Short
head_at (a ∷ code ∷ []) = Err Short
head_at (a ∷ code ∷ high ∷ []) = Err Short
head_at (a ∷ code ∷ high ∷ low ∷ rest) =
    if a / 64 == 1 then (
    if nat_lt 8 (a % 16) then Err TokenLength else (
    if (code == 0) && (nat_lt 0 (a % 16) || nat_lt 0 (length rest)) then Err EmptyExtra else
    Ok (
      record { kind = kind_of (a / 16 % 4); code = code; mid = 256 * high + low; len = a % 16 },
      rest,
    ))) else Err Version

unfoldable pub message_at : List ℕ → Result Content CodecFault
message_at bytes = do
  head ← head_at bytes
  token ← value_at head.0.len head.1
  options ← all_options_at token.1
  payload ← payload_at options.1
  Ok (record {
    kind = head.0.kind;
    code = head.0.code;
    mid = head.0.mid;
    token = token.0;
    options = options.0;
    payload = payload;
  })

-- What a function returned, seen by view, is what reading gives, unless memory ran out.
abbrev pub Gives : {X Y : Type 0} → (X → Y) → Result X CodecFault → Result Y CodecFault → Type 0
Gives view (Ok x) read = read ≡ Ok (view x)
Gives view (Err e) read = (e ≡ Memory) ⊎ (read ≡ Err e)

-- The same, and memory runs out only where reading meets no fault.
abbrev pub GivesLast : {X Y : Type 0} → (X → Y) → Result X CodecFault → Result Y CodecFault → Type 0
GivesLast view (Ok x) read = read ≡ Ok (view x)
GivesLast view (Err e) read = ((e ≡ Memory) × IsOk read) ⊎ (read ≡ Err e)
