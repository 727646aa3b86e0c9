use Rattle.std.proofs.Common.{◌≡◌, ℕ, ◌+◌, ◌*◌, ◌/◌, ◌%◌, ◌<◌, List, ap, ◌∙◌, arith}
use Rattle.std.specs.Int.{w64, to_be_bytes}
use Rattle.std.specs.Prelude.{drop}
use Rattle.std.proofs.lemmas.Nat.{from_be_bytes-to_be_bytes_4}
use Rattle.history_laws.specs.Numbering.{token_number}
use Rattle.exchange_core.proofs.numbering.token_of.Goals as goal

-- two numbers of 32 bits in one of 64, and its bytes

abbrev number-by : ℕ → ℕ → ℕ → ℕ → ℕ
number-by a b c d = 16777216 * (a % 256) + 65536 * (b % 256) + 256 * (c % 256) + d % 256

joined : (n : ℕ) → n < 4294967296 → number-by (n / 16777216) (n / 65536) (n / 256) n ≡ n
joined n small = omega (arith, from_be_bytes-to_be_bytes_4 n small)

high-3 : (n h : ℕ) → h < 4294967296 → (n * 4294967296 + h) / 72057594037927936 ≡ n / 16777216
high-3 n h small = omega (arith, small)

high-2 : (n h : ℕ) → h < 4294967296 → (n * 4294967296 + h) / 281474976710656 ≡ n / 65536
high-2 n h small = omega (arith, small)

high-1 : (n h : ℕ) → h < 4294967296 → (n * 4294967296 + h) / 1099511627776 ≡ n / 256
high-1 n h small = omega (arith, small)

high-0 : (n h : ℕ) → h < 4294967296 → (n * 4294967296 + h) / 4294967296 ≡ n
high-0 n h small = omega (arith, small)

high : (n h : ℕ) → n < 4294967296 → h < 4294967296 → token_number (to_be_bytes w64 (n * 4294967296 + h)) ≡ n
high n h fits small =
    let m = n * 4294967296 + h in
    ap (λ (x : ℕ). number-by x (m / 281474976710656) (m / 1099511627776) (m / 4294967296)) (high-3 n h small)
    ∙ ap (λ (x : ℕ). number-by (n / 16777216) x (m / 1099511627776) (m / 4294967296)) (high-2 n h small)
    ∙ ap (λ (x : ℕ). number-by (n / 16777216) (n / 65536) x (m / 4294967296)) (high-1 n h small)
    ∙ ap (λ (x : ℕ). number-by (n / 16777216) (n / 65536) (n / 256) x) (high-0 n h small)
    ∙ joined n fits

low-3 : (n h : ℕ) → (n * 4294967296 + h) / 16777216 % 256 ≡ h / 16777216 % 256
low-3 n h = let e : (n * 4294967296 + h) / 16777216 ≡ n * 256 + h / 16777216 = omega arith in omega (arith, e)

low-2 : (n h : ℕ) → (n * 4294967296 + h) / 65536 % 256 ≡ h / 65536 % 256
low-2 n h = let e : (n * 4294967296 + h) / 65536 ≡ n * 65536 + h / 65536 = omega arith in omega (arith, e)

low-1 : (n h : ℕ) → (n * 4294967296 + h) / 256 % 256 ≡ h / 256 % 256
low-1 n h = let e : (n * 4294967296 + h) / 256 ≡ n * 16777216 + h / 256 = omega arith in omega (arith, e)

low-0 : (n h : ℕ) → (n * 4294967296 + h) % 256 ≡ h % 256
low-0 n h = omega arith

low : (n h : ℕ) → h < 4294967296 → token_number (drop 4 (to_be_bytes w64 (n * 4294967296 + h))) ≡ h
low n h small = omega (arith, low-3 n h, low-2 n h, low-1 n h, low-0 n h, joined h small)

pub returns-clause-number : goal.returns-clause-number
returns-clause-number c =
    let is = c.from.ensures in
    let fits = c.ranges.issued.fits in
    let wide = c.ranges.word.fits in
    ap (λ (t : List ℕ). token_number t) (c.new.ensures ∙ c.to_be_bytes.ensures)
    ∙ high c.from.result (c.args.word / 4294967296) (omega (arith, is, fits)) (omega (arith, wide))
    ∙ is

pub returns-clause-word : goal.returns-clause-word
returns-clause-word c =
    let wide = c.ranges.word.fits in
    ap (λ (t : List ℕ). token_number (drop 4 t)) (c.new.ensures ∙ c.to_be_bytes.ensures)
    ∙ low c.from.result (c.args.word / 4294967296) (omega (arith, wide))
