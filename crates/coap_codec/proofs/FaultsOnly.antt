-- The first fault is the one that reading gives.
use Rattle.std.proofs.Common.{◌≡◌, ◌≢◌, ℕ, zero, suc, ◌≤◌, ◌<◌, ◌+◌, ◌*◌, ◌/◌, ◌%◌, true, false, ltb, eqb, List, [], ◌∷◌, ◌++◌, length, Ok, Err, refl, sym, ap, subst, ◌∙◌, append_assoc, arith, inl, inr, ◌⊎◌}
use Rattle.std.specs.Prelude.{◌||◌, ◌&&◌}
use Rattle.std.proofs.lemmas.List.{length-append}
use Rattle.std.proofs.lemmas.Bool.{eq-eqb, ne_eqb, lt-ltb, le-ltb, or_from, or_left, or_right, and_from, cases_eq}
use Rattle.coap_codec.specs.declared.fault.CodecFault.{CodecFault}
use Rattle.coap_codec.specs.declared.fault.CodecFault.TheVariants.{Short, Version, TokenLength, Reserved, Truncated, EmptyPayload, EmptyExtra, Number, Memory}
use Rattle.coap_codec.specs.Spelling.{Entry, SpellsOptions}
use Rattle.coap_codec.specs.Faults.{HasHeader, HeaderIs, HasDelta, HasLength, extension_length, OptionFault, last_number, HasOptions, FaultInOptions, FirstFault}
use Rattle.coap_codec.specs.Reading.{value_at, extended_at, option_at, options_at, message_at}
use Rattle.coap_codec.proofs.Again.{StandsFor-below, extended_again, value_again, option_again, options_again, header_again}

-- ---- an option

one_missing : (rest : List ℕ) → length rest < 1 → extended_at 13 rest ≡ Err Truncated
one_missing [] lt = refl
one_missing (a ∷ rest) lt = absurd (omega arith)

two_missing : (rest : List ℕ) → length rest < 2 → extended_at 14 rest ≡ Err Truncated
two_missing [] lt = refl
two_missing (a ∷ []) lt = refl
two_missing (a ∷ b ∷ rest) lt = absurd (omega arith)

extended_missing : (nibble : ℕ) (rest : List ℕ) → length rest < extension_length nibble → extended_at nibble rest ≡ Err Truncated
extended_missing nibble rest missing =
    elim (cases_eq nibble 13) [
      | inl z ↦ subst (λ (k : ℕ). extended_at k rest ≡ Err Truncated) (sym z) (one_missing rest (subst (λ (k : ℕ). length rest < extension_length k) z missing))
      | inr other ↦ elim (cases_eq nibble 14) [
        | inl z ↦ subst (λ (k : ℕ). extended_at k rest ≡ Err Truncated) (sym z) (two_missing rest (subst (λ (k : ℕ). length rest < extension_length k) z missing))
        | inr neither ↦
            let none : extension_length nibble ≡ 0 = rw (ne_eqb nibble 13 other, ne_eqb nibble 14 neither) refl in
            absurd (omega (arith, missing, none))
      ]
    ]

value_missing : (len : ℕ) (rest : List ℕ) → length rest < len → value_at len rest ≡ Err Truncated
value_missing len rest lt = rw (lt-ltb _ _ lt) refl

nibbles_good : (first : ℕ) → first / 16 < 15 → first % 16 < 15 → ((eqb (first / 16) 15) || (eqb (first % 16) 15)) ≡ false
nibbles_good first high low = or_from _ _ (ne_eqb (first / 16) 15 (λ z. omega arith)) (ne_eqb (first % 16) 15 (λ z. omega arith))

ends_in_delta : (before first : ℕ) (rest : List ℕ) → first / 16 < 15 → first % 16 < 15 → length rest < extension_length (first / 16) → option_at before first rest ≡ Err Truncated
unfolding option_at
ends_in_delta before first rest high low missing = rw (nibbles_good first high low, extended_missing (first / 16) rest missing) refl

ends_in_length : (before first delta : ℕ) (rest others : List ℕ) → HasDelta first rest delta others → before + delta < 65536 → length others < extension_length (first % 16) → option_at before first rest ≡ Err Truncated
unfolding option_at
ends_in_length before first delta rest others d fits missing =
    let small : ltb 65535 (before + delta) ≡ false = le-ltb _ _ (omega arith) in
    ap (option_at before first) d.parts ∙ rw (nibbles_good first d.delta_nibble d.length_nibble, extended_again (first / 16) d.more delta others d.delta_is, small, extended_missing (first % 16) others missing) refl

ends_in_value : (before first len : ℕ) (rest others : List ℕ) → HasLength before first rest len others → length others < len → option_at before first rest ≡ Err Truncated
unfolding option_at
ends_in_value before first len rest others h missing =
    let d = h.delta_is in
    let small : ltb 65535 (before + h.delta) ≡ false = le-ltb _ _ (omega (arith, h.in_range)) in
    let parts : rest ≡ d.more ++ (h.more ++ others) = d.parts ∙ ap (λ (r : List ℕ). d.more ++ r) h.parts in
    ap (option_at before first) parts ∙ rw (nibbles_good first d.delta_nibble d.length_nibble, extended_again (first / 16) d.more h.delta (h.more ++ others) d.delta_is, small, extended_again (first % 16) h.more len others h.length_is, value_missing len others missing) refl

passes_numbers : (before first delta : ℕ) (rest others : List ℕ) → HasDelta first rest delta others → 65535 < before + delta → option_at before first rest ≡ Err Number
unfolding option_at
passes_numbers before first delta rest others d large =
    ap (option_at before first) d.parts ∙ rw (nibbles_good first d.delta_nibble d.length_nibble, extended_again (first / 16) d.more delta others d.delta_is, lt-ltb _ _ large) refl

is_reserved : (before first : ℕ) (rest : List ℕ) → ((first / 16 ≡ 15) ⊎ (first % 16 ≡ 15)) → option_at before first rest ≡ Err Reserved
unfolding option_at
is_reserved before first rest (inl high) = rw (or_left (eqb (first / 16) 15) (eqb (first % 16) 15) (eq-eqb _ _ high)) refl
is_reserved before first rest (inr low) = rw (or_right (eqb (first / 16) 15) (eqb (first % 16) 15) (eq-eqb _ _ low)) refl

option_fault_again : (before first : ℕ) (rest : List ℕ) (f : CodecFault) → OptionFault before first rest f → (first ≢ 255) × (option_at before first rest ≡ Err f)
option_fault_again before first rest Reserved s = (s.0, is_reserved before first rest s.1)
option_fault_again before first rest Number s = (λ z. omega (arith, s.2.delta_nibble), passes_numbers before first s.0 rest s.1 s.2 s.3)
option_fault_again before first rest Truncated (inl s) = (λ z. omega (arith, s.0), ends_in_delta before first rest s.0 s.1 s.2)
option_fault_again before first rest Truncated (inr (inl s)) = (λ z. omega (arith, s.2.delta_nibble), ends_in_length before first s.0 rest s.1 s.2 s.3 s.4)
option_fault_again before first rest Truncated (inr (inr s)) = (λ z. omega (arith, s.2.delta_is.delta_nibble), ends_in_value before first s.0 rest s.1 s.2 s.3)
option_fault_again before first rest Short s = absurd s
option_fault_again before first rest Version s = absurd s
option_fault_again before first rest TokenLength s = absurd s
option_fault_again before first rest EmptyPayload s = absurd s
option_fault_again before first rest EmptyExtra s = absurd s
option_fault_again before first rest Memory s = absurd s

-- ---- options

options_fault_again : (rounds before : ℕ) (os : List Entry) (text : List ℕ) (first : ℕ) (rest : List ℕ) (f : CodecFault) → SpellsOptions before os text → OptionFault (last_number before os) first rest f → length (text ++ first ∷ rest) ≤ rounds → options_at rounds before (text ++ first ∷ rest) ≡ Err f
unfolding options_at
options_fault_again zero before os text first rest f s fault fits = absurd (omega (arith, fits, length-append text (first ∷ rest)))
options_fault_again (suc rounds) before [] text first rest f s fault fits =
    let here = option_fault_again before first rest f fault in
    ap (λ (t : List ℕ). options_at (suc rounds) before (t ++ first ∷ rest)) s ∙ rw (ne_eqb first 255 here.0, here.1) refl
options_fault_again (suc rounds) before (o ∷ os) text first rest f s fault fits =
    let p = s.3 in
    let b : ℕ = 16 * p.delta_nibble + p.length_nibble in
    let tail : List ℕ = p.delta_more ++ p.length_more ++ o.value in
    let behind : List ℕ = s.1 ++ first ∷ rest in
    let e : text ++ first ∷ rest ≡ b ∷ (tail ++ behind) = ap (λ (t : List ℕ). t ++ first ∷ rest) (s.2 ∙ ap (λ (g : List ℕ). g ++ s.1) p.whole) ∙ ap (λ (t : List ℕ). b ∷ t) (append_assoc tail s.1 (first ∷ rest)) in
    let d15 : p.delta_nibble < 15 = StandsFor-below p.delta_nibble p.delta_more p.delta p.delta_is in
    let l15 : p.length_nibble < 15 = StandsFor-below p.length_nibble p.length_more (length o.value) p.length_is in
    let no_marker : eqb b 255 ≡ false = ne_eqb b 255 (λ z. omega arith) in
    let shorter : length behind ≤ rounds = omega (arith, fits, ap length e, length-append tail behind) in
    ap (options_at (suc rounds) before) e ∙ rw (no_marker, option_again before o s.0 behind p, options_fault_again rounds o.number os s.1 first rest f s.4 fault shorter) refl

-- ---- the message

in_options_again : (bytes : List ℕ) (f : CodecFault) → FaultInOptions bytes f → message_at bytes ≡ Err f
unfolding message_at
in_options_again bytes f s =
    let h = s.in_front in
    let behind : List ℕ = h.text ++ s.first ∷ s.rest in
    let regrouped : h.token ++ h.text ++ s.first ∷ s.rest ≡ h.token ++ behind = append_assoc h.token h.text (s.first ∷ s.rest) in
    let options : options_at (length behind) 0 behind ≡ Err f = options_fault_again _ 0 s.good h.text s.first s.rest f h.spelled s.fault (omega arith) in
    rw (header_again bytes (length h.token) _ h.header, regrouped, value_again h.token behind, options) refl

in_marker_again : (bytes : List ℕ) (os : List Entry) → HasOptions bytes os (255 ∷ []) → message_at bytes ≡ Err EmptyPayload
unfolding message_at
in_marker_again bytes os h =
    let behind : List ℕ = h.text ++ 255 ∷ [] in
    let regrouped : h.token ++ h.text ++ 255 ∷ [] ≡ h.token ++ behind = append_assoc h.token h.text (255 ∷ []) in
    let options : options_at (length behind) 0 behind ≡ Ok (os, 255 ∷ []) = options_again _ 0 os h.text (255 ∷ []) h.spelled refl (omega arith) in
    rw (header_again bytes (length h.token) _ h.header, regrouped, value_again h.token behind, options) refl

in_token_again : (bytes rest : List ℕ) (len : ℕ) → HasHeader bytes len rest → length rest < len → message_at bytes ≡ Err Truncated
unfolding message_at
in_token_again bytes rest len h missing = rw (header_again bytes len rest h, value_missing len rest missing) refl

short_again : (bytes : List ℕ) → length bytes < 4 → message_at bytes ≡ Err Short
unfolding message_at
short_again [] lt = refl
short_again (a ∷ []) lt = refl
short_again (a ∷ b ∷ []) lt = refl
short_again (a ∷ b ∷ c ∷ []) lt = refl
short_again (a ∷ b ∷ c ∷ d ∷ rest) lt = absurd (omega arith)

version_again : (first code high low : ℕ) (rest : List ℕ) → first / 64 ≢ 1 → message_at (first ∷ code ∷ high ∷ low ∷ rest) ≡ Err Version
unfolding message_at
version_again first code high low rest other = rw (ne_eqb (first / 64) 1 other) refl

token_length_again : (first code high low : ℕ) (rest : List ℕ) → first / 64 ≡ 1 → 8 < first % 16 → message_at (first ∷ code ∷ high ∷ low ∷ rest) ≡ Err TokenLength
unfolding message_at
token_length_again first code high low rest version long = rw (eq-eqb (first / 64) 1 version, lt-ltb 8 (first % 16) long) refl

some_more : (len : ℕ) (rest : List ℕ) → ((0 < len) ⊎ (0 < length rest)) → (ltb 0 len || ltb 0 (length rest)) ≡ true
some_more len rest (inl token) = or_left _ _ (lt-ltb 0 len token)
some_more len rest (inr more) = or_right (ltb 0 len) _ (lt-ltb 0 (length rest) more)

empty_extra_again : (first code high low : ℕ) (rest : List ℕ) → first / 64 ≡ 1 → first % 16 ≤ 8 → code ≡ 0 → ((0 < first % 16) ⊎ (0 < length rest)) → message_at (first ∷ code ∷ high ∷ low ∷ rest) ≡ Err EmptyExtra
unfolding message_at
empty_extra_again first code high low rest version short empty more =
    let extra : ((eqb code 0) && (ltb 0 (first % 16) || ltb 0 (length rest))) ≡ true = and_from (eqb code 0) _ (eq-eqb code 0 empty) (some_more (first % 16) rest more) in
    rw (eq-eqb (first / 64) 1 version, le-ltb 8 (first % 16) short, extra) refl

-- a header's bytes, where they are so
pub header_is : (bytes : List ℕ) (P : ℕ → ℕ → List ℕ → Type 0) → HeaderIs bytes P → (first : ℕ) × (code : ℕ) × (high : ℕ) × (low : ℕ) × (rest : List ℕ) × (bytes ≡ first ∷ code ∷ high ∷ low ∷ rest) × P first code rest
header_is [] P s = absurd s
header_is (a ∷ []) P s = absurd s
header_is (a ∷ b ∷ []) P s = absurd s
header_is (a ∷ b ∷ c ∷ []) P s = absurd s
header_is (a ∷ b ∷ c ∷ d ∷ rest) P s = (a, b, c, d, rest, refl, s)

pub fault_again : (bytes : List ℕ) (f : CodecFault) → FirstFault bytes f → message_at bytes ≡ Err f
fault_again bytes Short s = short_again bytes s
fault_again bytes Version s =
    let h = header_is bytes _ s in
    ap message_at h.5 ∙ version_again h.0 h.1 h.2 h.3 h.4 h.6
fault_again bytes TokenLength s =
    let h = header_is bytes _ s in
    ap message_at h.5 ∙ token_length_again h.0 h.1 h.2 h.3 h.4 h.6.0 h.6.1
fault_again bytes EmptyExtra s =
    let h = header_is bytes _ s in
    ap message_at h.5 ∙ empty_extra_again h.0 h.1 h.2 h.3 h.4 h.6.0 h.6.1 h.6.2 h.6.3
fault_again bytes Truncated (inl s) = in_token_again bytes s.1 s.0 s.2 s.3
fault_again bytes Truncated (inr s) = in_options_again bytes Truncated s
fault_again bytes Reserved s = in_options_again bytes Reserved s
fault_again bytes Number s = in_options_again bytes Number s
fault_again bytes EmptyPayload s = in_marker_again bytes s.0 s.1
fault_again bytes Memory s = absurd s
