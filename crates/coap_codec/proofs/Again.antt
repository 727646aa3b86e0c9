-- What is spelled so is read.
use Rattle.std.proofs.Common.{◌≡◌, ℕ, zero, suc, ◌≤◌, ◌<◌, ◌+◌, ◌*◌, ◌/◌, ◌%◌, true, false, ltb, eqb, List, [], ◌∷◌, ◌++◌, length, Ok, refl, sym, ap, subst, ◌∙◌, append_assoc, arith, inl, inr}
use Rattle.std.specs.Prelude.{◌||◌, ◌&&◌}
use Rattle.std.proofs.lemmas.List.{length-append, take_at, drop_at}
use Rattle.std.proofs.lemmas.Bool.{eq-eqb, ne_eqb, le-ltb, lt-ltb, or_from, and_left, and_right, cases_eq}
use Rattle.coap_codec.specs.declared.message.MsgType.{MsgType}
use Rattle.coap_codec.specs.declared.message.MsgType.TheVariants.{Con, Non, Ack, Rst}
use Rattle.coap_codec.specs.Spelling.{Entry, Content, code_of, StandsFor, SpellsOption, SpellsOptions, SpellsPayload, Spells}
use Rattle.coap_codec.specs.Faults.{HasHeader}
use Rattle.coap_codec.specs.Reading.{value_at, extended_at, option_at, options_at, payload_at, kind_of, head_at, message_at}
use Rattle.coap_codec.proofs.Takes.{IsEnd}

pub StandsFor-below : (nibble : ℕ) (more : List ℕ) (n : ℕ) → StandsFor nibble more n → nibble < 15
StandsFor-below nibble [] n s = omega (arith, s.0)
StandsFor-below nibble (a ∷ []) n s = omega (arith, s.0)
StandsFor-below nibble (a ∷ b ∷ []) n s = omega (arith, s.0)
StandsFor-below nibble (a ∷ b ∷ c ∷ more) n s = absurd s

pub extended_again : (nibble : ℕ) (more : List ℕ) (n : ℕ) (rest : List ℕ) → StandsFor nibble more n → extended_at nibble (more ++ rest) ≡ Ok (n, rest)
extended_again nibble [] n rest s = rw (lt-ltb nibble 13 s.0, s.1) refl
extended_again nibble (a ∷ []) n rest s = rw (s.0, s.1) refl
extended_again nibble (a ∷ b ∷ []) n rest s = rw (s.0, s.1) refl
extended_again nibble (a ∷ b ∷ c ∷ more) n rest s = absurd s

pub value_again : (value rest : List ℕ) → value_at (length value) (value ++ rest) ≡ Ok (value, rest)
value_again value rest =
    let long : ltb (length (value ++ rest)) (length value) ≡ false = le-ltb _ _ (omega (arith, length-append value rest)) in
    rw (long, take_at value rest (length value) refl, drop_at value rest (length value) refl) refl

-- the bytes of an option after its first
abbrev pub behind_first : (before : ℕ) (o : Entry) (front : List ℕ) → SpellsOption before o front → List ℕ
behind_first before o front s = s.delta_more ++ s.length_more ++ o.value

abbrev pub first_of_option : (before : ℕ) (o : Entry) (front : List ℕ) → SpellsOption before o front → ℕ
first_of_option before o front s = 16 * s.delta_nibble + s.length_nibble

pub option_again : (before : ℕ) (o : Entry) (front rest : List ℕ) (s : SpellsOption before o front) → option_at before (first_of_option before o front s) (behind_first before o front s ++ rest) ≡ Ok (o, rest)
unfolding option_at
option_again before o front rest s =
    let d15 : s.delta_nibble < 15 = StandsFor-below s.delta_nibble s.delta_more s.delta s.delta_is in
    let l15 : s.length_nibble < 15 = StandsFor-below s.length_nibble s.length_more (length o.value) s.length_is in
    let high : (16 * s.delta_nibble + s.length_nibble) / 16 ≡ s.delta_nibble = omega arith in
    let low : (16 * s.delta_nibble + s.length_nibble) % 16 ≡ s.length_nibble = omega arith in
    let good : ((eqb s.delta_nibble 15) || (eqb s.length_nibble 15)) ≡ false = or_from _ _ (ne_eqb s.delta_nibble 15 (λ z. omega arith)) (ne_eqb s.length_nibble 15 (λ z. omega arith)) in
    let regrouped : (s.delta_more ++ s.length_more ++ o.value) ++ rest ≡ s.delta_more ++ (s.length_more ++ (o.value ++ rest)) = simp append_assoc in
    let small : ltb 65535 (before + s.delta) ≡ false = le-ltb _ _ (omega (arith, s.number, s.in_range)) in
    rw (high, low, good, regrouped, extended_again s.delta_nibble s.delta_more s.delta (s.length_more ++ (o.value ++ rest)) s.delta_is, small, extended_again s.length_nibble s.length_more (length o.value) (o.value ++ rest) s.length_is, value_again o.value rest, ← s.number) refl

options_end : (rounds before : ℕ) (rest : List ℕ) → IsEnd rest → options_at rounds before rest ≡ Ok ([], rest)
unfolding options_at
options_end zero before rest end = refl
options_end (suc rounds) before [] end = refl
options_end (suc rounds) before (b ∷ rest) end = rw end refl

pub options_again : (rounds before : ℕ) (os : List Entry) (text rest : List ℕ) → SpellsOptions before os text → IsEnd rest → length (text ++ rest) ≤ rounds → options_at rounds before (text ++ rest) ≡ Ok (os, rest)
unfolding options_at
options_again rounds before [] text rest s end fits = rw s (options_end rounds before rest end)
options_again zero before (o ∷ os) text rest s end fits = absurd (let e = s.2 ∙ ap (λ (f : List ℕ). f ++ s.1) s.3.whole in omega (arith, ap (λ (t : List ℕ). length (t ++ rest)) e))
options_again (suc rounds) before (o ∷ os) text rest s end fits =
    let p = s.3 in
    let b : ℕ = 16 * p.delta_nibble + p.length_nibble in
    let tail : List ℕ = p.delta_more ++ p.length_more ++ o.value in
    let e : text ++ rest ≡ b ∷ (tail ++ (s.1 ++ rest)) = ap (λ (t : List ℕ). t ++ rest) (s.2 ∙ ap (λ (f : List ℕ). f ++ s.1) p.whole) ∙ ap (λ (t : List ℕ). b ∷ t) (append_assoc tail s.1 rest) in
    let d15 : p.delta_nibble < 15 = StandsFor-below p.delta_nibble p.delta_more p.delta p.delta_is in
    let l15 : p.length_nibble < 15 = StandsFor-below p.length_nibble p.length_more (length o.value) p.length_is in
    let no_marker : eqb b 255 ≡ false = ne_eqb b 255 (λ z. omega arith) in
    let shorter : length (s.1 ++ rest) ≤ rounds = omega (arith, fits, ap length e, length-append tail (s.1 ++ rest)) in
    ap (options_at (suc rounds) before) e ∙ rw (no_marker, option_again before o s.0 (s.1 ++ rest) p, options_again rounds o.number os s.1 rest s.4 end shorter) refl

payload_end : (payload text : List ℕ) → SpellsPayload payload text → IsEnd text × (payload_at text ≡ Ok payload)
payload_end [] text s = subst (λ (t : List ℕ). IsEnd t × (payload_at t ≡ Ok [])) (sym s) (tt, refl)
payload_end (p ∷ ps) text s = subst (λ (t : List ℕ). IsEnd t × (payload_at t ≡ Ok (p ∷ ps))) (sym s) (refl, refl)

-- ---- the message

kind_of-code_of : (k : MsgType) → kind_of (code_of k) ≡ k
kind_of-code_of Con = refl
kind_of-code_of Non = refl
kind_of-code_of Ack = refl
kind_of-code_of Rst = refl

code_of-below : (k : MsgType) → code_of k < 4
code_of-below Con = omega arith
code_of-below Non = omega arith
code_of-below Ack = omega arith
code_of-below Rst = omega arith

no_option_bytes : (before : ℕ) (os : List Entry) (text : List ℕ) → SpellsOptions before os text → os ≡ [] → text ≡ []
no_option_bytes before [] text s e = s
no_option_bytes before (o ∷ os) text s e = absurd cc

no_payload_bytes : (payload text : List ℕ) → SpellsPayload payload text → payload ≡ [] → text ≡ []
no_payload_bytes [] text s e = s
no_payload_bytes (p ∷ ps) text s e = absurd cc

-- the bytes after the first four
abbrev pub body : (m : Content) (bytes : List ℕ) → Spells m bytes → List ℕ
body m bytes s = m.token ++ s.options ++ s.payload

-- Spelled bytes begin with a good header.
spells_header : (m : Content) (bytes : List ℕ) (s : Spells m bytes) → HasHeader bytes (length m.token) (body m bytes s)
spells_header m bytes s = record {
  kind = m.kind;
  code = m.code;
  mid_high = s.mid_high;
  mid_low = s.mid_low;
  short_token = s.short_token;
  nothing_else = λ z.
      let none = s.nothing_else z in
      let t : m.token ≡ [] = none.0 in
      let o : s.options ≡ [] = no_option_bytes 0 m.options s.options s.options_are none.1 in
      let p : s.payload ≡ [] = no_payload_bytes m.payload s.payload s.payload_is none.2 in
      (ap length t, rw (t, o, p) refl);
  whole = s.whole;
}

not_extra : (code len : ℕ) (rest : List ℕ) → (code ≡ 0 → (len ≡ 0) × (rest ≡ [])) → ((eqb code 0) && (ltb 0 len || ltb 0 (length rest))) ≡ false
not_extra code len rest nothing_else =
    elim (cases_eq code 0) [
      | inl z ↦ let none = nothing_else z in rw (none.0, none.1) (and_right (eqb code 0) _ refl)
      | inr other ↦ and_left (eqb code 0) _ (ne_eqb code 0 other)
    ]

pub header_again : (bytes : List ℕ) (len : ℕ) (rest : List ℕ) (h : HasHeader bytes len rest) → head_at bytes ≡ Ok (record { kind = h.kind; code = h.code; mid = 256 * h.mid_high + h.mid_low; len = len }, rest)
header_again bytes len rest h =
    let a : ℕ = 64 + 16 * code_of h.kind + len in
    let below : code_of h.kind < 4 = code_of-below h.kind in
    let short : len ≤ 8 = h.short_token in
    let version : eqb (a / 64) 1 ≡ true = eq-eqb (a / 64) 1 (omega arith) in
    let low : a % 16 ≡ len = omega arith in
    let kind : a / 16 % 4 ≡ code_of h.kind = omega arith in
    let fits : ltb 8 len ≡ false = le-ltb 8 len short in
    ap head_at h.whole ∙ rw (version, low, kind, fits, not_extra h.code len rest h.nothing_else, kind_of-code_of h.kind) refl

pub message_again : (m : Content) (bytes : List ℕ) → Spells m bytes → message_at bytes ≡ Ok m
unfolding message_at spells_header
message_again m bytes s =
    let p = payload_end m.payload s.payload s.payload_is in
    let regrouped : body m bytes s ≡ m.token ++ (s.options ++ s.payload) = append_assoc m.token s.options s.payload in
    let options : options_at (length (s.options ++ s.payload)) 0 (s.options ++ s.payload) ≡ Ok (m.options, s.payload) = options_again _ 0 m.options s.options s.payload s.options_are p.0 (omega arith) in
    rw (header_again bytes (length m.token) (body m bytes s) (spells_header m bytes s), regrouped, value_again m.token (s.options ++ s.payload), options, p.1, ← s.mid) refl
