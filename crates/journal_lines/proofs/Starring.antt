-- A message with stars for its payload has the message's bytes, with stars at their end.
use Rattle.std.proofs.Common.{◌≡◌, ℕ, ◌+◌, ◌*◌, ◌-◌, List, [], ◌∷◌, ◌++◌, length, take, refl, sym, ap, subst, ◌∙◌, arith, append_assoc}
use Rattle.std.proofs.lemmas.List.{length-append, take-append-le, take_all}
use Rattle.coap_codec.specs.Spelling.{Content, code_of, SpellsPayload, Spells}
use Rattle.journal_lines.specs.Hiding.{stars, starred, Hides}

-- what stands before a payload, and stays before one of stars
record Marked (payload text : List ℕ) : Type 0 where
  mark : List ℕ
  whole : text ≡ mark ++ payload
  stays : SpellsPayload (stars (length payload)) (mark ++ stars (length payload))

marked : (payload text : List ℕ) → SpellsPayload payload text → Marked payload text
marked [] text s = record { mark = []; whole = s; stays = refl }
marked (p ∷ ps) text s = record { mark = 255 ∷ []; whole = s; stays = refl }

no_payload : (payload : List ℕ) → payload ≡ [] → stars (length payload) ≡ []
no_payload payload e = rw e refl

-- what stands before the payload, which spells the message with stars after it
record Fronted (m : Content) (bytes : List ℕ) : Type 0 where
  front : List ℕ
  whole : bytes ≡ front ++ m.payload
  stays : Spells (starred m) (front ++ stars (length m.payload))

fronted_by : (m : Content) (bytes : List ℕ) (s : Spells m bytes) → Marked m.payload s.payload → Fronted m bytes
fronted_by m bytes s k =
    let head : List ℕ = ((64 + 16 * code_of m.kind + length m.token) ∷ m.code ∷ s.mid_high ∷ s.mid_low ∷ m.token) ++ s.options in
    record {
      front = head ++ k.mark;
      whole = s.whole ∙ (ap (λ (xs : List ℕ). head ++ xs) k.whole ∙ sym (append_assoc head k.mark m.payload));
      stays = record {
        options = s.options;
        payload = k.mark ++ stars (length m.payload);
        mid_high = s.mid_high;
        mid_low = s.mid_low;
        short_token = s.short_token;
        mid = s.mid;
        mid_low_is_byte = s.mid_low_is_byte;
        options_are = s.options_are;
        payload_is = k.stays;
        nothing_else = λ e. (let n = s.nothing_else e in (n.0, n.1, no_payload m.payload n.2));
        whole = append_assoc head k.mark (stars (length m.payload));
      };
    }

fronted : (m : Content) (bytes : List ℕ) → Spells m bytes → Fronted m bytes
fronted m bytes s = fronted_by m bytes s (marked m.payload s.payload s.payload_is)

front_kept : (front payload bytes : List ℕ) → bytes ≡ front ++ payload → take (length bytes - length payload) bytes ≡ front
front_kept front payload bytes e =
    let counted : length (front ++ payload) - length payload ≡ length front = rw (length-append front payload) (omega arith) in
    rw (e, counted) (take-append-le (length front) front payload (omega arith) ∙ take_all (length front) front (omega arith))

is_within : (m : Content) (bytes : List ℕ) → Spells m bytes → length bytes - (length bytes - length m.payload) ≡ length m.payload
is_within m bytes s =
    let f = fronted m bytes s in
    let counted : length bytes ≡ length f.front + length m.payload = ap (λ (xs : List ℕ). length xs) f.whole ∙ length-append f.front m.payload in
    omega (arith, counted)

shown_so : (m : Content) (bytes : List ℕ) → Spells m bytes → Spells (starred m) (take (length bytes - length m.payload) bytes ++ stars (length bytes - (length bytes - length m.payload)))
shown_so m bytes s =
    let f = fronted m bytes s in
    rw (is_within m bytes s, front_kept f.front m.payload bytes f.whole) f.stays

-- Bytes that spell one message hide it so.
pub hides_message : (n : Content) (bytes shown : List ℕ) → Spells n bytes → ((m : Content) → Spells m bytes → n ≡ m) → shown ≡ take (length bytes - length n.payload) bytes ++ stars (length bytes - (length bytes - length n.payload)) → Hides bytes shown
hides_message n bytes shown s one e = record {
  message = λ m t. subst (λ (x : Content). Spells (starred x) shown) (one m t) (rw e (shown_so n bytes s));
  other = λ none. absurd (none n s);
}

-- Bytes that spell none are hidden whole.
pub hides_all : (bytes shown : List ℕ) → ((m : Content) → Spells m bytes → ⊥) → shown ≡ take 0 bytes ++ stars (length bytes - 0) → Hides bytes shown
hides_all bytes shown none e =
    let counted : length bytes - 0 ≡ length bytes = omega arith in
    record {
      message = λ m t. absurd (none m t);
      other = λ _. e ∙ ap (λ (n : ℕ). stars n) counted;
    }
