-- UTF-8 taken apart at its first character.
use Rattle.std.proofs.Common.{◌≡◌, ℕ, ◌<◌, ◌≤◌, Bool, true, false, ◌&&◌, List, [], ◌∷◌, ◌++◌, length, take, drop, refl, sym, ap, ◌∙◌, arith, IsUtf8}
use Rattle.std.specs.Str.{is_utf8, continuation_len}
use Rattle.std.proofs.lemmas.Str.{IsUtf8-from_is_utf8, is_utf8-from_IsUtf8, IsUtf8-append, IsUtf8-encode, IsUtf8-nil, encode_ascii}
use Rattle.std.proofs.lemmas.List.{take-append-drop, length-append, length-take}
use Rattle.std.proofs.Math.Seq.{take-append_seam, drop-append_seam}
use Rattle.std.proofs.str.Laws as laws
use lib.Utf8.{scalar, scalars, encode, encodes, scalar_cases, low_scalar}

-- A character's first byte tells how many follow.
pub record Parts (c : ℕ) : Type 0 where
  pub first : ℕ
  pub more : List ℕ
  pub whole : encode c ≡ first ∷ more
  pub count : continuation_len first ≡ length more

parts : (c : ℕ) → laws.Shape c → Parts c
parts c (laws.of1 h e) = record { first = c; more = []; whole = e; count = grind arith }
parts c (laws.of2 a b l h f s e) = record { first = a; more = b ∷ []; whole = e; count = grind arith }
parts c (laws.of3 a b d l h f g s e) = record { first = a; more = b ∷ d ∷ []; whole = e; count = grind arith }
parts c (laws.of4 a b d x l h f g k s e) = record { first = a; more = b ∷ d ∷ x ∷ []; whole = e; count = grind arith }

-- a text that begins with this byte, taken apart at its first character
pub record First (b : ℕ) (rest : List ℕ) : Type 0 where
  pub room : continuation_len b ≤ length rest
  pub char : IsUtf8 (b ∷ take (continuation_len b) rest)
  pub others : IsUtf8 (drop (continuation_len b) rest)

pub both : (x y : Bool) → x && y ≡ true → (x ≡ true) × (y ≡ true)
both true true e = (refl, refl)
both true false e = absurd cc
both false y e = absurd cc

same_front : (a b : ℕ) (xs ys : List ℕ) → a ∷ xs ≡ b ∷ ys → (a ≡ b) × (xs ≡ ys)
same_front a b xs ys e = (cc, cc)

no_text : (b : ℕ) (rest : List ℕ) → [] ≡ b ∷ rest → ⊥
no_text b rest e = absurd cc

pub first_of : (b : ℕ) (rest : List ℕ) → IsUtf8 (b ∷ rest) → First b rest
first_of b rest ([], all) = absurd (no_text b rest all.1)
first_of b rest (c ∷ cs, all) =
    let scalar_all = all.0 in
    let spelled = all.1 in
    let scalar_of = both (scalar c) (scalars cs) scalar_all in
    let p = parts c (laws.shape c (scalar_cases c scalar_of.0)) in
    let front : p.first ∷ (p.more ++ encodes cs) ≡ b ∷ rest = ap (λ t. t ++ encodes cs) (sym p.whole) ∙ spelled in
    let same = same_front p.first b _ _ front in
    let count : continuation_len b ≡ length p.more = ap continuation_len (sym same.0) ∙ p.count in
    let char : take (continuation_len b) rest ≡ p.more = rw (count, ← same.1) (take-append_seam p.more (encodes cs)) in
    let others : drop (continuation_len b) rest ≡ encodes cs = rw (count, ← same.1) (drop-append_seam p.more (encodes cs)) in
    let text : b ∷ take (continuation_len b) rest ≡ encode c = rw (char, ← same.0) (sym p.whole) in
    record {
      room = rw count (omega (arith, length-append p.more (encodes cs), ap length same.1));
      char = rw text (IsUtf8-encode c scalar_of.0);
      others = (cs, (scalar_of.1, sym others));
    }

pub short_char : (b : ℕ) (rest : List ℕ) → length rest < continuation_len b → ¬ (IsUtf8 (b ∷ rest))
short_char b rest short text = let first = first_of b rest text in absurd (omega (arith, first.room))

-- two tests that imply each other
pub same_tests : (x y : Bool) → (x ≡ true → y ≡ true) → (y ≡ true → x ≡ true) → x ≡ y
same_tests true true f g = refl
same_tests true false f g = sym (f refl)
same_tests false true f g = g refl
same_tests false false f g = refl

pub no_test : (x : Bool) → (x ≡ true → ⊥) → x ≡ false
no_test true f = absurd (f refl)
no_test false f = refl

-- after a character the text is UTF-8 where what is left is
pub char_goes_on : (b : ℕ) (rest : List ℕ) → IsUtf8 (b ∷ take (continuation_len b) rest) → is_utf8 (drop (continuation_len b) rest) ≡ is_utf8 (b ∷ rest)
char_goes_on b rest char =
    same_tests _ _
    (λ others. is_utf8-from_IsUtf8 _ (rw (← take-append-drop (continuation_len b) rest) (IsUtf8-append _ _ char (IsUtf8-from_is_utf8 _ others))))
    (λ all. let first = first_of b rest (IsUtf8-from_is_utf8 _ all) in is_utf8-from_IsUtf8 _ first.others)

pub no_char : (b : ℕ) (rest : List ℕ) → ¬ (IsUtf8 (b ∷ take (continuation_len b) rest)) → is_utf8 (b ∷ rest) ≡ false
no_char b rest none = no_test _ (λ all. let first = first_of b rest (IsUtf8-from_is_utf8 _ all) in none first.char)

-- a character whose bytes end too early
missing : (b : ℕ) (ds : List ℕ) → length ds < continuation_len b → ¬ (IsUtf8 (b ∷ take (continuation_len b) ds))
missing b ds few = short_char b _ (omega (arith, length-take (continuation_len b) ds))

pub missing_one : (b : ℕ) (ds : List ℕ) → 128 ≤ b → ds ≡ [] → ¬ (IsUtf8 (b ∷ take (continuation_len b) ds))
missing_one b ds high e = let more : 0 < continuation_len b = grind arith in missing b ds (omega (arith, ap length e))

pub missing_two : (b : ℕ) (ds : List ℕ) (second : ℕ) (left : List ℕ) → 224 ≤ b → ds ≡ second ∷ left → left ≡ [] → ¬ (IsUtf8 (b ∷ take (continuation_len b) ds))
missing_two b ds second left high e none = let more : 1 < continuation_len b = grind arith in missing b ds (omega (arith, ap length e, ap length none))

pub missing_three : (b : ℕ) (ds : List ℕ) (second third : ℕ) (left last : List ℕ) → 240 ≤ b → ds ≡ second ∷ left → left ≡ third ∷ last → last ≡ [] → ¬ (IsUtf8 (b ∷ take (continuation_len b) ds))
missing_three b ds second third left last high e f none = let more : 2 < continuation_len b = grind arith in missing b ds (omega (arith, ap length e, ap length f, ap length none))

subst_ascii : (b : ℕ) → b < 128 → IsUtf8 (b ∷ [])
subst_ascii b low = rw (← encode_ascii b low) (IsUtf8-encode b (low_scalar b (omega arith)))

-- an ASCII byte is a character
pub ascii_char : (b : ℕ) (ds : List ℕ) → b < 128 → IsUtf8 (b ∷ take (continuation_len b) ds) × (ds ≡ drop (continuation_len b) ds)
ascii_char b ds low =
    let none : continuation_len b ≡ 0 = grind arith in
    rw none (subst_ascii b low, refl)

pub loop_goes_on : (b : ℕ) (ds left : List ℕ) (next : List ℕ) (total : Bool) → ds ≡ b ∷ left → IsUtf8 (b ∷ take (continuation_len b) left) → next ≡ drop (continuation_len b) left → is_utf8 ds ≡ total → is_utf8 next ≡ total
loop_goes_on b ds left next total e char f so_far = ap is_utf8 f ∙ char_goes_on b left char ∙ ap is_utf8 (sym e) ∙ so_far

pub loop_stops : (b : ℕ) (ds left : List ℕ) (total : Bool) → ds ≡ b ∷ left → ¬ (IsUtf8 (b ∷ take (continuation_len b) left)) → is_utf8 ds ≡ total → false ≡ total
loop_stops b ds left total e none so_far = sym (no_char b left none) ∙ ap is_utf8 (sym e) ∙ so_far

pub loop_ends : (ds : List ℕ) (total : Bool) → ds ≡ [] → is_utf8 ds ≡ total → true ≡ total
loop_ends ds total e so_far = sym (is_utf8-from_IsUtf8 [] IsUtf8-nil) ∙ ap is_utf8 (sym e) ∙ so_far
