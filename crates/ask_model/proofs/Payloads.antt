-- A payload after a message that has none, and the length of a message's bytes.
use Rattle.std.proofs.Common.{◌≡◌, ℕ, ◌+◌, ◌*◌, ◌≤◌, List, [], ◌∷◌, ◌++◌, length, refl, ◌∙◌, ap, length-append, arith}
use Rattle.std.proofs.lemmas.List.{append-nil}
use Rattle.coap_codec.specs.Spelling.{Content, Spells, SpellsPayload, code_of}
use Rattle.coap_codec.specs.Writing.{payload_text}

spelled_payload : (payload : List ℕ) → SpellsPayload payload (payload_text payload)
spelled_payload [] = refl
spelled_payload (p ∷ ps) = refl

none_spelled : (payload text : List ℕ) → payload ≡ [] → SpellsPayload payload text → text ≡ []
none_spelled [] text e s = s
none_spelled (p ∷ ps) text e s = absurd cc

-- the bytes before a payload
behind_nothing : (front text payload : List ℕ) → text ≡ [] → (front ++ text) ++ payload ≡ front ++ payload
behind_nothing front text payload e = rw (e, append-nil front) refl

-- what stands before the payload
abbrev front_of : (m : Content) {bytes : List ℕ} → Spells m bytes → List ℕ
front_of m s = (64 + 16 * code_of m.kind + length m.token) ∷ m.code ∷ s.mid_high ∷ s.mid_low ∷ m.token ++ s.options

pub Spells-with_payload : (m : Content) (bytes payload : List ℕ) → (m.code ≡ 0 → ⊥) → m.payload ≡ [] → Spells m bytes → Spells (record m { payload = payload }) (bytes ++ payload_text payload)
Spells-with_payload m bytes payload code empty s = record {
  options = s.options;
  payload = payload_text payload;
  mid_high = s.mid_high;
  mid_low = s.mid_low;
  short_token = s.short_token;
  mid = s.mid;
  mid_low_is_byte = s.mid_low_is_byte;
  options_are = s.options_are;
  payload_is = spelled_payload payload;
  nothing_else = λ zero. absurd (code zero);
  whole = ap (λ text. text ++ payload_text payload) s.whole ∙ behind_nothing (front_of m s) s.payload (payload_text payload) (none_spelled m.payload s.payload empty s.payload_is);
}

payload_len : (payload text : List ℕ) → SpellsPayload payload text → length text ≤ 1 + length payload
payload_len [] text s = omega (arith, ap length s)
payload_len (p ∷ ps) text s = omega (arith, ap length s)

pub spelled_length : (m : Content) (bytes : List ℕ) (s : Spells m bytes) → length bytes ≤ 5 + length m.token + length s.options + length m.payload
spelled_length m bytes s =
    let whole = ap length s.whole in
    let first = length-append m.token s.options in
    let second = length-append (m.token ++ s.options) s.payload in
    let payload = payload_len m.payload s.payload s.payload_is in
    omega (arith, whole, first, second, payload)
