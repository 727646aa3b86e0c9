-- Blocks by their values, and where pieces begin.
use Rattle.std.proofs.Common.{◌≡◌, ℕ, ◌+◌, ◌*◌, ◌/◌, ◌%◌, ◌^◌, ◌<◌, ◌≤◌, Bool, true, false, ◌&&◌, nat_le, nat_lt, List, length, Option, Some, None, cond, refl, ap, arith}
use Rattle.std.specs.Prelude.{IfSome, IfNone}
use Rattle.std.proofs.Math.Nat.{div-le_self, div-mul-le_self, mul-le-mul}
use Rattle.std.proofs.lemmas.Bool.{and_from, and_parts, le-leb, lt-ltb, leb-true, ltb-true}
use Rattle.coap_codec.specs.declared.block.Block.{Block}
use Rattle.coap_codec.specs.Values.{uint, IsBlock}
use Rattle.blockwise.specs.Reading.{block_by}
use Rattle.blockwise.proofs.Blocks.{block_found}
use Rattle.demo_origin.specs.Blocks.{named_value}

pub below_itself : (n k b : ℕ) → n < b → n / k < b
below_itself n k b lt = omega (arith, div-le_self n k)

pub begins_below : (n k len : ℕ) → n < len → n / k * k < len
begins_below n k len lt = omega (arith, div-mul-le_self n k)

pub offset_below : (num size : ℕ) → num < 2 ^ 20 → size ≤ 1024 → num * size < 2 ^ 32
offset_below num size lt le =
    let a : num ≤ 1048576 = omega arith in
    let h : num * size ≤ 1048576 * 1024 = mul-le-mul a le in
    omega (arith, h)

szx_below : (num szx n : ℕ) (more : Bool)
    → n ≡ 16 * num + cond more 8 0 + szx → szx < 7 → n % 8 < 7
szx_below num szx n true e lt = omega (arith, e)
szx_below num szx n false e lt = omega (arith, e)

-- A reader that finds the block of each value that has one gives what the value says.
pub value_named : (r : Option Block) (v : List ℕ)
    → IfSome r (λ b. (length v ≤ 3) × IsBlock b (uint v))
    → IfNone r ((b : Block) → length v ≤ 3 → IsBlock b (uint v) → ⊥)
    → r ≡ named_value v
value_named (Some b) v found none =
    let szx : uint v % 8 < 7 =
    szx_below b.num b.szx (uint v) b.more found.1.parts found.1.szx in
    let test : (nat_le (length v) 3 && nat_lt (uint v % 8) 7) ≡ true =
    and_from _ _ (le-leb (length v) 3 found.0) (lt-ltb (uint v % 8) 7 szx) in
    let same : Some b ≡ Some (block_by v) = block_found (Some b) v found none found.0 szx in
    let block : b ≡ block_by v = cc in
    rw test (ap (λ (x : Block). Some x) block)
value_named None v found none =
    let t = nat_le (length v) 3 && nat_lt (uint v % 8) 7 in
    let not_both : t ≡ true → ⊥ = λ e.
    let both = and_parts (nat_le (length v) 3) (nat_lt (uint v % 8) 7) e in
    let found_it : None ≡ Some (block_by v) =
    block_found None v found none (leb-true _ _ both.0) (ltb-true _ _ both.1) in
    cc in
    let P : Bool → Type 0 = λ b.
    (b ≡ true → ⊥) → None ≡ cond b (Some (block_by v)) None in
    let each : (b : Bool) → P b =
    λ b. elim b as P [ true ↦ λ n. absurd (n refl) | false ↦ λ n. refl ] in
    each t not_both
