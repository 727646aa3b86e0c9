-- The eight groups of an IPv6 address, written out.
use Rattle.std.proofs.Common.{◌≡◌, ℕ, zero, suc, ◌+◌, ◌-◌, ◌/◌, ◌%◌, ◌*◌, ◌^◌, ◌<◌, ◌≤◌, ◌==◌, Bool, true, false, List, [], ◌∷◌, ◌++◌, length, get_or, replicate, flat_map, refl, sym, ap, ◌∙◌, subst, arith, inl, inr, lit≤, le-leb, length-append, append_assoc, All}
use Rattle.std.proofs.lemmas.Bool.{cases_lt, lt-leb}
use Rattle.std.proofs.lemmas.Bool.Decides.{nat_tests}
use Rattle.std.proofs.lemmas.List.{length-replicate}
use Rattle.std.proofs.lemmas.List.Elements.{All-nil, All-cons, All-append, All-drop, All-head, All-tail}
use Rattle.std.proofs.lemmas.Int.Digits.{digits_value-lt}
use Rattle.std.proofs.Math.Nat.{pow-le-pow_right}
use Rattle.std.specs.Char.{digit_value, digit_char}
use Rattle.std.specs.Net.Addr.{segments_of}
use Rattle.std.specs.Net.Text.{hex, groups_text, leading_zero_digits}
use Rattle.std.specs.Net.Grammar.{IsDotted, IsGroup, IsGroupsAfter, IsGroups, IsColonHex}
use Rattle.std.proofs.NetLemmas.Alphabet.{IsHexOrColon}
use Rattle.std.proofs.NetLemmas.Texts.{AllSegments}

group_small : (group : List ℕ) (s : ℕ) → IsGroup group s → s < 2 ^ 16
group_small group s h =
    let below = digits_value-lt 16 group h.0.0.1 in
    let most : 16 ^ length group ≤ 16 ^ 4 = pow-le-pow_right (lit≤ tt) h.1 in
    omega (arith, h.0.1)

nil_small : AllSegments []
nil_small k = omega arith

cons_small : (x : ℕ) (xs : List ℕ) → x < 2 ^ 16 → AllSegments xs → AllSegments (x ∷ xs)
cons_small x xs first others k = elim k as (λ j. get_or (x ∷ xs) j 0 < 2 ^ 16) [ zero ↦ first | suc j ↦ others j ]

append_small : (xs ys : List ℕ) → AllSegments xs → AllSegments ys → AllSegments (xs ++ ys)
append_small [] ys h k = k
append_small (x ∷ xs) ys h k = cons_small x (xs ++ ys) (h 0) (append_small xs ys (λ j. h (suc j)) k)

zeros_small : (n : ℕ) → AllSegments (replicate n 0)
zeros_small zero = nil_small
zeros_small (suc n) = cons_small 0 (replicate n 0) (omega arith) (zeros_small n)

dotted_small : (text octets : List ℕ) → IsDotted text octets → AllSegments (segments_of octets)
dotted_small text octets h =
    let high : h.a * 256 + h.b < 2 ^ 16 = omega (arith, h.fit) in
    let low : h.c * 256 + h.d < 2 ^ 16 = omega (arith, h.fit) in
    subst (λ o. AllSegments (segments_of o)) (sym h.value) (cons_small (h.a * 256 + h.b) ((h.c * 256 + h.d) ∷ []) high (cons_small (h.c * 256 + h.d) [] low nil_small))

groups_small : (ipv4 : Bool) (lead text segments : List ℕ) → IsGroupsAfter ipv4 lead text segments → AllSegments segments
groups_small ipv4 lead text [] h = nil_small
groups_small ipv4 lead text (s ∷ segments) (inl h) = cons_small s segments (group_small h.0 s h.3) (groups_small ipv4 (58 ∷ []) h.1 segments h.4)
groups_small ipv4 lead text (s ∷ segments) (inr h) = subst AllSegments (sym h.5) (dotted_small h.0 h.1 h.4)

-- Whatever text writes an address, it has eight segments of 16 bits.
pub segments_fit : (text segments : List ℕ) → IsColonHex text segments → (length segments ≡ 8) × AllSegments segments
segments_fit text segments (inl h) = (h.1, groups_small true [] text segments h.0)
segments_fit text segments (inr h) =
    let zeros = replicate (8 - length h.head - length h.tail) 0 in
    let size : length (h.head ++ zeros ++ h.tail) ≡ 8 = omega (arith, h.room, length-append (h.head ++ zeros) h.tail, length-append h.head zeros, length-replicate {A = ℕ} (8 - length h.head - length h.tail) 0) in
    let small = append_small (h.head ++ zeros) h.tail (append_small h.head zeros (groups_small false [] h.head_text h.head h.head_groups) (zeros_small _)) (groups_small true [] h.tail_text h.tail h.tail_groups) in
    (ap length h.value ∙ size, subst AllSegments (sym h.value) small)

digit_again : (d : ℕ) → d < 16 → digit_value (digit_char d) ≡ d
digit_again d h = grind (arith, nat_tests)

hex_is_group : (n : ℕ) → n < 2 ^ 16 → IsGroup (hex n) n
unfolding hex
hex_is_group n fits =
    let a = digit_again (n / 0x1000) (omega arith) in
    let b = digit_again (n / 0x100 % 16) (omega arith) in
    let c = digit_again (n / 0x10 % 16) (omega arith) in
    let d = digit_again (n % 16) (omega arith) in
    elim (cases_lt n 0x1000) [
      | inr four ↦ rw (le-leb _ n four) (omega arith)
      | inl h₃ ↦ elim (cases_lt n 0x100) [
        | inr three ↦ rw (lt-leb _ n h₃, le-leb _ n three) (omega arith)
        | inl h₂ ↦ elim (cases_lt n 0x10) [
          | inr two ↦ rw (lt-leb _ n h₃, lt-leb _ n h₂, le-leb _ n two) (omega arith)
          | inl h₁ ↦ rw (lt-leb _ n h₃, lt-leb _ n h₂, lt-leb _ n h₁) (omega arith)
        ]
      ]
    ]

more_groups : (xs : List ℕ) → AllSegments xs → IsGroupsAfter true (58 ∷ []) (flat_map (λ t. 58 ∷ hex t) xs) xs
more_groups [] h = refl
more_groups (x ∷ xs) h = inl (hex x, _, refl, hex_is_group x (h 0), more_groups xs (λ j. h (suc j)))

all_groups : (xs : List ℕ) → AllSegments xs → IsGroups true (groups_text xs) xs
all_groups [] h = refl
all_groups (x ∷ xs) h = inl (hex x, _, refl, hex_is_group x (h 0), more_groups xs (λ j. h (suc j)))

pub groups_written : (xs : List ℕ) → length xs ≡ 8 → AllSegments xs → IsColonHex (groups_text xs) xs
groups_written xs eight fits = inl (all_groups xs fits, eight)

digit_byte : (d : ℕ) → d < 16 → IsHexOrColon (digit_char d)
digit_byte d h = grind (arith, nat_tests)

four : (a b c d : ℕ) → IsHexOrColon a → IsHexOrColon b → IsHexOrColon c → IsHexOrColon d → All IsHexOrColon (a ∷ b ∷ c ∷ d ∷ [])
four a b c d e f g h =
    All-cons IsHexOrColon a (b ∷ c ∷ d ∷ []) e (All-cons IsHexOrColon b (c ∷ d ∷ []) f (All-cons IsHexOrColon c (d ∷ []) g (All-cons IsHexOrColon d [] h (All-nil IsHexOrColon))))

hex_bytes : (n : ℕ) → n < 2 ^ 16 → All IsHexOrColon (hex n)
unfolding hex
hex_bytes n fits =
    let a = digit_byte (n / 0x1000) (omega arith) in
    let b = digit_byte (n / 0x100 % 16) (omega arith) in
    let c = digit_byte (n / 0x10 % 16) (omega arith) in
    let d = digit_byte (n % 16) (omega arith) in
    All-drop IsHexOrColon (leading_zero_digits n) (digit_char (n / 0x1000) ∷ digit_char (n / 0x100 % 16) ∷ digit_char (n / 0x10 % 16) ∷ digit_char (n % 16) ∷ [])
    (four (digit_char (n / 0x1000)) (digit_char (n / 0x100 % 16)) (digit_char (n / 0x10 % 16)) (digit_char (n % 16)) a b c d)

more_bytes : (xs : List ℕ) → AllSegments xs → All IsHexOrColon (flat_map (λ t. 58 ∷ hex t) xs)
more_bytes [] h = All-nil IsHexOrColon
more_bytes (x ∷ xs) h =
    All-append IsHexOrColon (58 ∷ hex x) _ (All-cons IsHexOrColon 58 (hex x) (inl (omega arith)) (hex_bytes x (h 0))) (more_bytes xs (λ j. h (suc j)))

pub groups_bytes : (xs : List ℕ) → AllSegments xs → All IsHexOrColon (groups_text xs)
groups_bytes [] h = All-nil IsHexOrColon
groups_bytes (x ∷ xs) h = All-append IsHexOrColon (hex x) _ (hex_bytes x (h 0)) (more_bytes xs (λ j. h (suc j)))

abbrev pub NoColon : List ℕ → Type 0
NoColon text = All (λ b. (b == 58) ≡ false) text

colon_byte : (text : List ℕ) → NoColon (58 ∷ text) → ⊥
colon_byte text all = let first : (58 == 58) ≡ false = All-head (λ b. (b == 58) ≡ false) 58 text all in absurd cc

behind : (front text : List ℕ) → NoColon (front ++ text) → NoColon text
behind [] text all = all
behind (x ∷ front) text all = behind front text (All-tail (λ b. (b == 58) ≡ false) x (front ++ text) all)

no_groups : (ipv4 : Bool) (text : List ℕ) (s : ℕ) (segments : List ℕ) → IsGroupsAfter ipv4 (58 ∷ []) text (s ∷ segments) → NoColon text → ⊥
no_groups ipv4 text s segments (inl h) all = colon_byte _ (subst NoColon h.2 all)
no_groups ipv4 text s segments (inr h) all = colon_byte _ (subst NoColon h.3 all)

few : (text octets : List ℕ) → IsDotted text octets → length (segments_of octets) ≡ 2
few text octets h = ap (λ o. length (segments_of o)) h.value

colon_in_groups : (text segments : List ℕ) → IsGroups true text segments → length segments ≡ 8 → NoColon text → ⊥
colon_in_groups text [] h eight all = absurd (omega arith)
colon_in_groups text (s ∷ []) h eight all = absurd (omega arith)
colon_in_groups text (s ∷ t ∷ segments) (inl h) eight all = no_groups true h.1 t segments h.4 (behind h.0 h.1 (subst NoColon h.2 all))
colon_in_groups text (s ∷ t ∷ segments) (inr h) eight all = absurd (omega (arith, ap length h.5, few h.0 h.1 h.4))

-- An address has a colon.
pub colon_written : (text segments : List ℕ) → IsColonHex text segments → NoColon text → ⊥
colon_written text segments (inl h) all = colon_in_groups text segments h.0 h.1 all
colon_written text segments (inr h) all =
    let shown : text ≡ h.head_text ++ (58 ∷ 58 ∷ h.tail_text) = h.spelled ∙ simp append_assoc in
    colon_byte (58 ∷ h.tail_text) (behind h.head_text (58 ∷ 58 ∷ h.tail_text) (subst NoColon shown all))
