-- What is to be read yet decides, and the number so far is small.
use Rattle.std.proofs.Common.{◌≡◌, ◌<◌, ◌^◌, drop}
use Rattle.std.specs.Str.{all_ascii_digits}
use Rattle.std.specs.Str.Parse.{digits_value, digits_value_after}
use Rattle.status_page.proofs.asked.decimal_of.Given as goal

abbrev pub invariant-each : goal.invariant-each
invariant-each l = record {
  digits : all_ascii_digits l.digits ≡ all_ascii_digits (drop l.digit-index l.digits);
  value : digits_value 10 l.digits ≡ digits_value_after 10 l.number (drop l.digit-index l.digits);
  small : l.number < 10 ^ l.digit-index;
}
