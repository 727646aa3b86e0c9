-- Bytes that are whole blocks.
use Rattle.std.proofs.Common.{◌≡◌, ℕ, suc, zero, ◌+◌, ◌-◌, ◌*◌, ◌/◌, ◌^◌, ◌<◌, ◌≤◌, ap, sym, ◌∙◌, arith}
use Rattle.std.proofs.Math.Nat.{mul_assoc, suc-mul}
use Rattle.std.proofs.lemmas.Nat.{pow-add}
use Rattle.blockwise.specs.Reading.{size_of}
use Rattle.blockwise.specs.Uploads.{IsAligned}

pub whole_blocks : (szx n t : ℕ) → szx < 7 → t ≡ n * size_of szx → t / size_of szx * size_of szx ≡ t
whole_blocks zero n t lt e = omega (arith, e)
whole_blocks (suc zero) n t lt e = omega (arith, e)
whole_blocks (suc (suc zero)) n t lt e = omega (arith, e)
whole_blocks (suc (suc (suc zero))) n t lt e = omega (arith, e)
whole_blocks (suc (suc (suc (suc zero)))) n t lt e = omega (arith, e)
whole_blocks (suc (suc (suc (suc (suc zero))))) n t lt e = omega (arith, e)
whole_blocks (suc (suc (suc (suc (suc (suc zero)))))) n t lt e = omega (arith, e)
whole_blocks (suc (suc (suc (suc (suc (suc (suc n))))))) m t lt e = absurd (omega (arith, lt))

pub whole_number : (t szx : ℕ) → szx < 7 → IsAligned t szx → t / size_of szx * size_of szx ≡ t
whole_number t szx lt h = whole_blocks szx h.num t lt h.blocks

-- a block is some of the smaller ones
some_smaller : (a b : ℕ) → b ≤ a → size_of a ≡ 2 ^ (a - b) * size_of b
some_smaller a b le =
    let e : a + 4 ≡ (a - b) + (b + 4) = omega (arith, le) in
    ap (λ (n : ℕ). 2 ^ n) e ∙ pow-add 2 (a - b) (b + 4)

pub one_block_more : (t a b : ℕ) → b ≤ a → IsAligned t a → IsAligned (t + size_of a) b
one_block_more t a b le h =
    let one : t + size_of a ≡ suc h.num * size_of a = ap (λ (n : ℕ). n + size_of a) h.blocks ∙ sym (suc-mul h.num (size_of a)) in
    let smaller : suc h.num * size_of a ≡ suc h.num * (2 ^ (a - b) * size_of b) = ap (λ (n : ℕ). suc h.num * n) (some_smaller a b le) in
    record { num = suc h.num * 2 ^ (a - b); blocks = one ∙ (smaller ∙ sym (mul_assoc (suc h.num) (2 ^ (a - b)) (size_of b))) }

pub small_size : (szx : ℕ) → szx < 7 → 2 ^ (szx + 4) ≤ 1024
small_size zero lt = omega arith
small_size (suc zero) lt = omega arith
small_size (suc (suc zero)) lt = omega arith
small_size (suc (suc (suc zero))) lt = omega arith
small_size (suc (suc (suc (suc zero)))) lt = omega arith
small_size (suc (suc (suc (suc (suc zero))))) lt = omega arith
small_size (suc (suc (suc (suc (suc (suc zero)))))) lt = omega arith
small_size (suc (suc (suc (suc (suc (suc (suc n))))))) lt = absurd (omega (arith, lt))

-- So few blocks come before a byte of a body that a Block option can say their numbers.
pub few_blocks : (szx num len : ℕ) → szx < 7 → num * size_of szx ≡ len → len ≤ 65536 → num + 1 < 2 ^ 20
few_blocks zero num len lt e short = omega (arith, e)
few_blocks (suc zero) num len lt e short = omega (arith, e)
few_blocks (suc (suc zero)) num len lt e short = omega (arith, e)
few_blocks (suc (suc (suc zero))) num len lt e short = omega (arith, e)
few_blocks (suc (suc (suc (suc zero)))) num len lt e short = omega (arith, e)
few_blocks (suc (suc (suc (suc (suc zero))))) num len lt e short = omega (arith, e)
few_blocks (suc (suc (suc (suc (suc (suc zero)))))) num len lt e short = omega (arith, e)
few_blocks (suc (suc (suc (suc (suc (suc (suc n))))))) num len lt e short = absurd (omega (arith, lt))
