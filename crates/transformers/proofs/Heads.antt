-- The shortest head reads back, and begins neither false, true nor null.
use Rattle.std.proofs.Common.{◌≡◌, ℕ, ◌+◌, ◌*◌, ◌/◌, ◌%◌, ◌<◌, List, ◌∷◌, ◌++◌, Bool, true, false, cond, ltb, Some, None, refl, ap, ◌∙◌, arith, append_assoc}
use Rattle.std.proofs.lemmas.Bool.{ltb-true, ne_eqb}
use Rattle.transformers.specs.declared.head.Major.{Major}
use Rattle.transformers.specs.declared.head.Major.TheVariants.{Unsigned, Negative, Text, Array, Map}
use Rattle.transformers.specs.Item.{two_at, four_at, eight_at, argument_at, major_of, head_at, simple_at}
use Rattle.transformers.specs.Shortest.{two_bytes, four_bytes, eight_bytes, number_of, shortest_head}

two_back : (n : ℕ) (rest : List ℕ) → two_at (two_bytes n ++ rest) ≡ Some (n, rest)
unfolding two_at
two_back n rest = let is : 256 * (n / 256) + n % 256 ≡ n = omega arith in ap (λ (m : ℕ). Some (m, rest)) is

four_back : (n : ℕ) (rest : List ℕ) → four_at (four_bytes n ++ rest) ≡ Some (n, rest)
unfolding four_at four_bytes
four_back n rest =
    let is : 65536 * (n / 65536) + n % 65536 ≡ n = omega arith in
    ap four_at (append_assoc (two_bytes (n / 65536)) (two_bytes (n % 65536)) rest)
    ∙ rw (two_back (n / 65536) (two_bytes (n % 65536) ++ rest), two_back (n % 65536) rest) (ap (λ (m : ℕ). Some (m, rest)) is)

eight_back : (n : ℕ) (rest : List ℕ) → eight_at (eight_bytes n ++ rest) ≡ Some (n, rest)
unfolding eight_at eight_bytes
eight_back n rest =
    let is : 4294967296 * (n / 4294967296) + n % 4294967296 ≡ n = omega arith in
    ap eight_at (append_assoc (four_bytes (n / 4294967296)) (four_bytes (n % 4294967296)) rest)
    ∙ rw (four_back (n / 4294967296) (four_bytes (n % 4294967296) ++ rest), four_back (n % 4294967296) rest) (ap (λ (m : ℕ). Some (m, rest)) is)

major_back : (m : Major) → major_of (number_of m) ≡ Some m
unfolding major_of
major_back Unsigned = refl
major_back Negative = refl
major_back Text = refl
major_back Array = refl
major_back Map = refl

number_small : (m : Major) → number_of m < 6
number_small Unsigned = omega arith
number_small Negative = omega arith
number_small Text = omega arith
number_small Array = omega arith
number_small Map = omega arith

-- a first byte and what it says of the argument
begins : (m : Major) (i : ℕ) (bytes : List ℕ) (a : ℕ × List ℕ) → i < 32 → argument_at i bytes ≡ Some a → head_at ((32 * number_of m + i) ∷ bytes) ≡ Some (m, a.0, a.1)
unfolding head_at
begins m i bytes a lt e =
    let high : (32 * number_of m + i) / 32 ≡ number_of m = omega arith in
    let low : (32 * number_of m + i) % 32 ≡ i = omega arith in
    rw (high, low, major_back m, e) refl

not_simple : (m : Major) (i : ℕ) (bytes : List ℕ) → i < 32 → simple_at ((32 * number_of m + i) ∷ bytes) ≡ None
unfolding simple_at
not_simple m i bytes lt =
    let small = number_small m in
    let b : ℕ = 32 * number_of m + i in
    rw (ne_eqb b 244 (λ e. absurd (omega (arith, e, small))), ne_eqb b 245 (λ e. absurd (omega (arith, e, small))), ne_eqb b 246 (λ e. absurd (omega (arith, e, small)))) refl

BeginsItem : Major → ℕ → List ℕ → List ℕ → Type 0
BeginsItem m n head rest = (head_at (head ++ rest) ≡ Some (m, n, rest)) × (simple_at (head ++ rest) ≡ None)

-- one of two heads, as a test says
by_test : (P : List ℕ → Type 0) (b : Bool) (x y : List ℕ) → (b ≡ true → P x) → (b ≡ false → P y) → P (cond b x y)
by_test P true x y f g = f refl
by_test P false x y f g = g refl

pub head_back : (m : Major) (n : ℕ) (rest : List ℕ) → (head_at (shortest_head m n ++ rest) ≡ Some (m, n, rest)) × (simple_at (shortest_head m n ++ rest) ≡ None)
unfolding shortest_head BeginsItem argument_at
head_back m n rest =
    let P : List ℕ → Type 0 = λ head. BeginsItem m n head rest in
    by_test P (ltb n 24) _ _
    (λ e. let lt = ltb-true n 24 e in
    (begins m n rest (n, rest) (omega arith) (rw e refl), not_simple m n rest (omega arith)))
    (λ _. by_test P (ltb n 256) _ _
    (λ _. (begins m 24 (n ∷ rest) (n, rest) (omega arith) refl, not_simple m 24 (n ∷ rest) (omega arith)))
    (λ _. by_test P (ltb n 65536) _ _
    (λ _. (begins m 25 (two_bytes n ++ rest) (n, rest) (omega arith) (two_back n rest), not_simple m 25 (two_bytes n ++ rest) (omega arith)))
    (λ _. by_test P (ltb n 4294967296) _ _
    (λ _. (begins m 26 (four_bytes n ++ rest) (n, rest) (omega arith) (four_back n rest), not_simple m 26 (four_bytes n ++ rest) (omega arith)))
    (λ _. (begins m 27 (eight_bytes n ++ rest) (n, rest) (omega arith) (eight_back n rest), not_simple m 27 (eight_bytes n ++ rest) (omega arith))))))
