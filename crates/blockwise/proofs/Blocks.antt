-- The block that a Block value stands for.
use Rattle.std.proofs.Common.{◌≡◌, ◌≢◌, ℕ, ◌+◌, ◌*◌, ◌/◌, ◌%◌, ◌<◌, ◌≤◌, Bool, true, false, ◌==◌, List, length, Option, Some, None, refl, ap, sym, ◌∙◌, cond, arith}
use Rattle.std.specs.Prelude.{IfSome, IfNone}
use Rattle.std.proofs.lemmas.Bool.{false≢true}
use Rattle.std.proofs.lemmas.Bool.Decides.{Decides-eqb}
use Rattle.coap_codec.specs.declared.block.Block.{Block}
use Rattle.coap_codec.specs.Values.{uint, IsBlock}
use Rattle.blockwise.specs.Reading.{block_by}

is_not_one : (k : ℕ) → k ≡ 0 → (k == 1) ≡ false
is_not_one k e = rw e refl

same_num : (num szx n : ℕ) (more : Bool) → n ≡ 16 * num + cond more 8 0 + szx → szx < 7 → n / 16 ≡ num
same_num num szx n true e lt = omega (arith, e)
same_num num szx n false e lt = omega (arith, e)

same_szx : (num szx n : ℕ) (more : Bool) → n ≡ 16 * num + cond more 8 0 + szx → szx < 7 → n % 8 ≡ szx
same_szx num szx n true e lt = omega (arith, e)
same_szx num szx n false e lt = omega (arith, e)

same_more : (num szx n : ℕ) (more : Bool) → n ≡ 16 * num + cond more 8 0 + szx → szx < 7 → ((n / 8) % 2 == 1) ≡ more
same_more num szx n true e lt = (Decides-eqb ((n / 8) % 2) 1).1 (omega (arith, e))
same_more num szx n false e lt = is_not_one ((n / 8) % 2) (omega (arith, e))

block_is : (b : Block) (value : List ℕ) → IsBlock b (uint value) → block_by value ≡ b
block_is b value h =
    let with_num : ℕ → Block = λ k. record { num = k; more = (uint value / 8) % 2 == 1; szx = uint value % 8 } in
    let with_more : Bool → Block = λ k. record { num = b.num; more = k; szx = uint value % 8 } in
    let with_szx : ℕ → Block = λ k. record { num = b.num; more = b.more; szx = k } in
    ap with_num (same_num b.num b.szx (uint value) b.more h.parts h.szx)
    ∙ (ap with_more (same_more b.num b.szx (uint value) b.more h.parts h.szx) ∙ ap with_szx (same_szx b.num b.szx (uint value) b.more h.parts h.szx))

parts_by : (n : ℕ) (more : Bool) → ((n / 8) % 2 == 1) ≡ more → n ≡ 16 * (n / 16) + cond more 8 0 + n % 8
parts_by n true e =
    let odd : (n / 8) % 2 ≡ 1 = (Decides-eqb ((n / 8) % 2) 1).0 e in
    omega (arith, odd)
parts_by n false e =
    let even : (n / 8) % 2 ≢ 1 = λ z. false≢true (sym e ∙ (Decides-eqb ((n / 8) % 2) 1).1 z) in
    omega (arith, even)

is_block : (value : List ℕ) → uint value % 8 < 7 → IsBlock (block_by value) (uint value)
is_block value lt = record { parts = parts_by (uint value) ((uint value / 8) % 2 == 1) refl; szx = lt }

-- A reader that finds the block of each value that has one gives this one.
pub block_found : (r : Option Block) (value : List ℕ) → IfSome r (λ b. (length value ≤ 3) × IsBlock b (uint value))
    → IfNone r ((b : Block) → length value ≤ 3 → IsBlock b (uint value) → ⊥) → length value ≤ 3 → uint value % 8 < 7
    → r ≡ Some (block_by value)
block_found (Some b) value found none len lt = ap (λ (x : Block). Some x) (sym (block_is b value found.1))
block_found None value found none len lt = absurd (none (block_by value) len (is_block value lt))
