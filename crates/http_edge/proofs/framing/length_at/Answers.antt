use Rattle.std.proofs.Common.{rules, ◌≡◌, ◌<◌, ◌∙◌, sym, refl, get_or, length, arith}
use Rattle.http_edge.proofs.Framings as law
use Rattle.http_edge.proofs.framing.length_at.Goals as goal

pub returns-then-not-is_ascii_digit : goal.returns-then-not-is_ascii_digit
returns-then-not-is_ascii_digit c =
    law.digit_fails c.each.n (get_or c.args.digits.now c.each.digit-index 0) c.args.digits.now c.each.digit-index 0 _ c.each-test.true refl
    (sym c.is_ascii_digit.ensures.value ∙ c.if-not-is_ascii_digit.true) c.each.invariant.0

pub each-preserved : goal.each-preserved
each-preserved c = (
  rw (c.min-n.ensures, c.from.ensures) (law.digit_goes_on c.each.n (get_or c.args.digits.now c.each.digit-index 0) c.args.digits.now c.each.digit-index 0 _ c.each-test.true refl
      (sym c.is_ascii_digit.ensures.value ∙ c.if-not-is_ascii_digit.false) c.each.invariant.0),
  omega (arith, c.min-n.ensures),
)

pub returns-then-n-gt-MAX_BODY_LEN : goal.returns-then-n-gt-MAX_BODY_LEN
returns-then-n-gt-MAX_BODY_LEN c = law.digits_large c.each.n c.args.digits.now c.each.digit-index _ c.each-test.false c.if-n-gt-MAX_BODY_LEN.true c.each.invariant.0

pub returns : goal.returns
returns c = law.digits_end c.each.n c.args.digits.now c.each.digit-index _ c.each-test.false c.if-n-gt-MAX_BODY_LEN.false c.each.invariant.0

pub each-init : goal.each-init
each-init c =
    let some : 0 < length c.args.digits.now = search rules in
    (law.digits_are c.args.digits.now some, omega arith)

pub returns-then-is_empty : goal.returns-then-is_empty
returns-then-is_empty c =
    let none : length c.args.digits.now ≡ 0 = search rules in
    law.no_digits c.args.digits.now none
