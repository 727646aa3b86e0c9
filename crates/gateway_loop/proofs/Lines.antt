-- How many bytes a head has, line by line.
use Rattle.std.proofs.Common.{◌≡◌, ◌≢◌, ◌+◌, ◌-◌, ◌<◌, ◌≤◌, ◌==◌, ℕ, zero, suc, true, false, cond}
use Rattle.std.proofs.Common.{List, [], ◌∷◌, Some, None, length, length-drop, drop, slice_index}
use Rattle.std.proofs.Common.{refl, sym, ap, ◌∙◌, arith, ⊎_elim}
use Rattle.std.proofs.lemmas.Bool.{cases_Bool, cond-true, cond-false, eq-eqb, eqb-true, ne_eqb}
use Rattle.std.proofs.lemmas.List.{drop-drop}
use Rattle.memchr.specs.Find.{IsFirstByte, is_byte}
use Rattle.gateway_loop.specs.Telling.{head_len}

-- it is the same whether a byte is CR, where the line isn't empty
same : (b n : ℕ) → cond (b == 13) n n ≡ n
same b n = ⊎_elim
    (λ yes. cond-true _ _ _ yes)
    (λ no. cond-false _ _ _ no)
    (cases_Bool (b == 13))

-- the first line feed ends a line that isn't empty
pub head_len-at : (bs : List ℕ) (e : ℕ) → e < length bs → slice_index bs e ≡ 10
    → ((k : ℕ) → k < e → slice_index bs k ≢ 10)
    → head_len false bs ≡ suc e + head_len true (drop (suc e) bs)
head_len-at [] e l is before = absurd (omega arith)
head_len-at (b ∷ rest) zero l is before = cond-true _ _ _ (eq-eqb b 10 is) ∙ omega arith
head_len-at (b ∷ rest) (suc e) l is before =
    let other : b ≢ 10 = before 0 (omega arith) in
    let inner = head_len-at rest e (omega arith) is (λ k a. before (suc k) (omega arith)) in
    cond-false _ _ _ (ne_eqb b 10 other) ∙ same b _ ∙ ap suc inner ∙ omega arith

-- without one there is a line at most
pub head_len-none : (bs : List ℕ) → ((k : ℕ) → k < length bs → slice_index bs k ≢ 10)
    → head_len false bs ≡ length bs
head_len-none [] none = refl
head_len-none (b ∷ rest) none =
    let other : b ≢ 10 = none 0 (omega arith) in
    let inner = head_len-none rest (λ k a. none (suc k) (omega arith)) in
    cond-false _ _ _ (ne_eqb b 10 other) ∙ same b _ ∙ ap suc inner

-- a line on which something stands behind the CRs isn't empty
pub head_len-text : (bs : List ℕ) (i : ℕ)
    → (i < length bs → slice_index bs i ≢ 10) → (i < length bs → slice_index bs i ≢ 13)
    → head_len true (drop i bs) ≡ head_len false (drop i bs)
head_len-text [] zero other more = refl
head_len-text [] (suc i) other more = refl
head_len-text (b ∷ rest) zero other more =
    let no : b ≢ 10 = other (omega arith) in
    let nor : b ≢ 13 = more (omega arith) in
    (cond-false _ _ _ (ne_eqb b 10 no) ∙ cond-false _ _ _ (ne_eqb b 13 nor))
    ∙ sym (cond-false _ _ _ (ne_eqb b 10 no) ∙ same b _)
head_len-text (b ∷ rest) (suc i) other more =
    head_len-text rest i (λ l. other (omega arith)) (λ l. more (omega arith))

-- an empty line ends the head
pub head_len-end : (bs : List ℕ) (i : ℕ) → i < length bs → slice_index bs i ≡ 10
    → head_len true (drop i bs) ≡ 1
head_len-end [] i l is = absurd (omega arith)
head_len-end (b ∷ rest) zero l is = cond-true _ _ _ (eq-eqb b 10 is)
head_len-end (b ∷ rest) (suc i) l is = head_len-end rest i (omega arith) is

-- CR on an empty line is passed over
pub head_len-cr : (bs : List ℕ) (i : ℕ) → i < length bs → slice_index bs i ≡ 13
    → head_len true (drop i bs) ≡ suc (head_len true (drop (suc i) bs))
head_len-cr [] i l is = absurd (omega arith)
head_len-cr (b ∷ rest) zero l is =
    let cr : b ≡ 13 = is in
    cond-false _ _ _ (ne_eqb b 10 (λ e. omega arith)) ∙ cond-true _ _ _ (eq-eqb b 13 cr)
head_len-cr (b ∷ rest) (suc i) l is = head_len-cr rest i (omega arith) is

-- A head is looked at up to a place of a line that isn't empty, and `hay` stands from there on.
module _ (bs : List ℕ) (at : ℕ) (so : head_len false bs ≡ at + head_len false (drop at bs))
    (hay : List ℕ) (is : hay ≡ drop at bs) where
  -- the first line feed from there on ends the line
  pub head_len-line : (line : ℕ) → IsFirstByte (is_byte 10) hay (Some line)
      → head_len false bs ≡ (at + line + 1) + head_len true (drop (at + line + 1) bs)
  head_len-line line found =
      let rest = head_len-at hay line found.0.high (eqb-true _ 10 found.1)
      (λ k a e. found.0.before k (omega arith) a (eq-eqb _ 10 e)) in
      let here : at + suc line ≡ at + line + 1 = omega arith in
      let next = ap (λ h. head_len true (drop (suc line) h)) is
      ∙ ap (head_len true) (drop-drop (suc line) at bs)
      ∙ ap (λ n. head_len true (drop n bs)) here in
      let first = ap (head_len false) (sym is) ∙ rest ∙ ap (λ n. suc line + n) next in
      so ∙ ap (λ n. at + n) first ∙ omega arith

  -- where there is none, all is the head so far
  pub head_len-all : at ≤ length bs → IsFirstByte (is_byte 10) hay None
      → length bs ≡ head_len false bs
  head_len-all fits none =
      let rest = head_len-none hay (λ k a e. none k (omega arith) a (eq-eqb _ 10 e)) in
      let long : length hay ≡ length bs - at = ap length is ∙ length-drop at bs in
      let sum : at + (length bs - at) ≡ length bs = omega (fits, arith) in
      sym (so ∙ ap (λ n. at + n) (ap (head_len false) (sym is) ∙ rest ∙ long) ∙ sum)

-- what is left at one place is what is passed over up to another, and what is left there
pub further : (h from to x y : ℕ) → from ≤ to → h ≡ from + x → x ≡ (to - from) + y → h ≡ to + y
further h from to x y le so more = omega (le, so, more, arith)
