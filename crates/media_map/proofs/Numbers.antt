-- A format's number is read back from its digits.
use Rattle.std.proofs.Common.{◌≡◌, ◌∙◌, ap, refl, rules, ℕ, ◌+◌, ◌-◌, ◌*◌, ◌<◌, ◌≤◌, List, [], ◌∷◌, length, true, Some, arith}
use Rattle.std.specs.Prelude.{◌==◌, codes}
use Rattle.std.specs.List.{list_all, list_any}
use Rattle.std.specs.Char.{is_ascii_alphanumeric}
use Rattle.std.specs.Fmt.{decimal}
use Rattle.std.proofs.lemmas.Fmt.{digits_decimal, digits_value-decimal, decimal_nonempty, length-decimal-le}
use Rattle.std.proofs.lemmas.Str.Parse.{IsNumeralModel, numerals_by_fold}
use Rattle.std.proofs.lemmas.Bool.{le-leb, lt-ltb, ne_eqb, or_left}
use Rattle.media_map.specs.declared.text.Scan.TheVariants.{Plain}
use Rattle.media_map.specs.Texts.{is_tchar, is_token, is_blank, trim_end, pieces_from}
use Rattle.media_map.specs.MediaTypes.{unquoted}
use Rattle.media_map.specs.Formats.{number_with, number_from, format_number}

abbrev pub AllDigits : List ℕ → Type 0
AllDigits [] = Unit {0}
AllDigits (d ∷ ds) = ((48 ≤ d) × (d ≤ 57)) × AllDigits ds

abbrev read_on : ℕ → List ℕ → ℕ
read_on n [] = n
read_on n (d ∷ ds) = read_on (10 * n + (d - 48)) ds

own : IsNumeralModel AllDigits (read_on 0)
own = numerals_by_fold _ (search rules) read_on (search rules)

grows : (ds : List ℕ) (n : ℕ) → n ≤ read_on n ds
grows [] n = omega arith
grows (d ∷ ds) n = omega (arith, grows ds (10 * n + (d - 48)))

one_digit : (n d : ℕ) → 48 ≤ d → d ≤ 57 → 10 * n + (d - 48) ≤ 65535 → number_with n d ≡ Some (10 * n + (d - 48))
unfolding number_with
one_digit n d low high small = rw (le-leb 48 d low, le-leb d 57 high, le-leb (10 * n + (d - 48)) 65535 small) refl

all_digits : (ds : List ℕ) (n : ℕ) → AllDigits ds → read_on n ds < 65536 → number_from n ds ≡ Some (read_on n ds)
all_digits [] n digits small = refl
all_digits (d ∷ ds) n digits small =
    let fits : 10 * n + (d - 48) ≤ 65535 = omega (arith, small, grows ds (10 * n + (d - 48))) in
    rw (one_digit n d digits.0.0 digits.0.1 fits) (all_digits ds (10 * n + (d - 48)) digits.1 small)

pub are_digits : (n : ℕ) → n < 65536 → AllDigits (decimal n)
are_digits n small = digits_decimal own n (omega (arith, small))

pub has_digits : (n : ℕ) → n < 65536 → 0 < length (decimal n)
has_digits n small = decimal_nonempty n (omega (arith, small))

pub read_back : (n : ℕ) → n < 65536 → format_number (decimal n) ≡ Some n
unfolding format_number
read_back n small =
    let value : read_on 0 (decimal n) ≡ n = digits_value-decimal own n (omega (arith, small)) in
    let short : length (decimal n) ≤ 5 = length-decimal-le 5 n (omega arith) (omega (arith, small)) (omega (arith, small)) in
    rw (lt-ltb 0 (length (decimal n)) (has_digits n small), le-leb (length (decimal n)) 5 short)
    (all_digits (decimal n) 0 (are_digits n small) (rw value small) ∙ ap (λ m. Some m) value)

-- Digits stay whole where texts are cut, trimmed and unquoted, and are a token.
pub one_piece : (ds : List ℕ) → AllDigits ds → pieces_from true 59 Plain ds ≡ ds ∷ []
one_piece [] digits = refl
one_piece (d ∷ ds) digits = rw (ne_eqb d 59 (λ e. omega (arith, e, digits.0.1)), ne_eqb d 34 (λ e. omega (arith, e, digits.0.0)), one_piece ds digits.1) refl

pub no_blanks : (ds : List ℕ) → AllDigits ds → trim_end ds ≡ ds
unfolding is_blank
no_blanks [] digits = refl
no_blanks (d ∷ ds) digits = rw (ne_eqb d 32 (λ e. omega (arith, e, digits.0.0)), ne_eqb d 9 (λ e. omega (arith, e, digits.0.0)), no_blanks ds digits.1) refl

alphanumeric : (d : ℕ) → 48 ≤ d → d ≤ 57 → is_ascii_alphanumeric d ≡ true
alphanumeric d low high = grind (arith, low, high)

token_byte : (d : ℕ) → 48 ≤ d → d ≤ 57 → is_tchar d ≡ true
unfolding is_tchar
token_byte d low high = or_left (is_ascii_alphanumeric d) (list_any (λ c. d == c) (codes "!#$%&'*+-.^_`|~")) (alphanumeric d low high)

token_bytes : (ds : List ℕ) → AllDigits ds → list_all is_tchar ds ≡ true
token_bytes [] digits = refl
token_bytes (d ∷ ds) digits = rw (token_byte d digits.0.0 digits.0.1, token_bytes ds digits.1) refl

pub digits_are_token : (ds : List ℕ) → AllDigits ds → 0 < length ds → is_token ds ≡ true
digits_are_token ds digits some = rw (lt-ltb 0 (length ds) some, token_bytes ds digits) refl

pub no_quotes : (ds : List ℕ) → AllDigits ds → unquoted ds ≡ ds
unfolding unquoted
no_quotes [] digits = refl
no_quotes (d ∷ ds) digits = rw (ne_eqb d 34 (λ e. omega (arith, e, digits.0.0))) refl
