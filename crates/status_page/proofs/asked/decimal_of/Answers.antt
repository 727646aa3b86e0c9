-- A number of at most nine digits fits 32 bits.
use Rattle.std.proofs.Common.{ℕ, ◌+◌, ◌*◌, ◌<◌, ◌≤◌, ◌^◌, length, Fits, w32, arith}
use Rattle.std.proofs.Math.Nat.{pow-le-pow_right}
use Rattle.status_page.proofs.asked.decimal_of.Goals as goal

small-number : (i n number : ℕ) → i < n → n < 10 → number < 10 ^ i → number < 100000000
small-number i n number less few small =
    let most : i ≤ 8 = omega (arith, less, few) in
    let power : 10 ^ i ≤ 10 ^ 8 = pow-le-pow_right (omega arith) most in
    omega (arith, small, power)

pub overflow_mul-number : goal.overflow_mul-number
overflow_mul-number c =
    let small = small-number c.each.digit-index (length c.args.digits.now) c.each.number c.each-test.true c.requires c.each.invariant.small in
    omega (arith, small)

pub overflow_add-number : goal.overflow_add-number
overflow_add-number c =
    let small = small-number c.each.digit-index (length c.args.digits.now) c.each.number c.each-test.true c.requires c.each.invariant.small in
    let byte = c.type_inv.digits c.each.digit-index in
    let digit = c.from.ensures in
    omega (arith, small, byte, digit)
