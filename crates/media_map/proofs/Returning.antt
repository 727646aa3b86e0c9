-- The media type that is written for a format is read back as that format.
use Rattle.std.proofs.Common.{◌≡◌, sym, subst, refl, ℕ, suc, ◌<◌, List, [], ◌∷◌, ◌++◌, length, length-append, Bool, true, false, Some, None, arith}
use Rattle.std.specs.Prelude.{◌==◌, nat_lt, if◌then◌else◌, codes, Ok}
use Rattle.std.specs.List.{list_all, AllByRecursion}
use Rattle.std.specs.Fmt.{decimal}
use Rattle.std.proofs.lemmas.Bool.{lt-ltb, ne_eqb, eqb-true, or_right}
use Rattle.media_map.specs.declared.policy.Policy.{Policy}
use Rattle.media_map.specs.Texts.{pieces, trim, is_blank, is_tchar}
use Rattle.media_map.specs.MediaTypes.{Named, media_at, is_essence, slash_in, equals_in, is_parameter, is_pair, has_name, value_of, unquoted}
use Rattle.media_map.specs.Formats.{Row, table, text_in, media_text, table_format, payload_format, format_number, format_at, is_foreign_text}
use Rattle.media_map.proofs.Reading.{is_named}
use Rattle.media_map.proofs.Numbers.{AllDigits, are_digits, has_digits, read_back, one_piece, no_blanks, digits_are_token, no_quotes}

abbrev payload_text : List ℕ → List ℕ
payload_text digits = codes "application/coap-payload;cf=" ++ digits

abbrev parameter : List ℕ → List ℕ
parameter digits = codes "cf=" ++ digits

abbrev payload : List ℕ → Named
payload digits = record { essence = codes "application/coap-payload"; parameters = parameter digits ∷ [] }

by_payload : (policy : Policy) (text : List ℕ) (m : Named) (format : ℕ) → (length (trim text) == 0) ≡ false → media_at text ≡ Some m
    → table_format m ≡ None → payload_format m ≡ Some format → policy.pass ≡ true → format_at policy text ≡ Ok (Some format)
unfolding format_at
by_payload policy text m format some named none number pass = rw (some, named, none, number, pass) refl

text_trimmed : (ds : List ℕ) → AllDigits ds → trim (payload_text ds) ≡ payload_text ds
unfolding trim is_blank
text_trimmed ds digits = rw (no_blanks ds digits) refl

parameter_trimmed : (ds : List ℕ) → AllDigits ds → trim (parameter ds) ≡ parameter ds
unfolding trim is_blank
parameter_trimmed ds digits = rw (no_blanks ds digits) refl

long : (ds : List ℕ) → nat_lt 2 (length (parameter ds)) ≡ true
long ds = let h : 2 < suc (suc (suc (length ds))) = omega arith in lt-ltb 2 (length (parameter ds)) h

pair : (ds : List ℕ) → AllDigits ds → 0 < length ds → is_pair (parameter ds) ≡ true
unfolding is_pair equals_in is_tchar
pair ds digits some = rw (long ds, digits_are_token ds digits some) refl

good_parameter : (ds : List ℕ) → AllDigits ds → 0 < length ds → is_parameter (parameter ds) ≡ true
unfolding is_parameter
good_parameter ds digits some = rw (parameter_trimmed ds digits) (or_right (length (parameter ds) == 0) (is_pair (parameter ds)) (pair ds digits some))

two_pieces : (ds : List ℕ) → AllDigits ds → pieces true 59 (payload_text ds) ≡ codes "application/coap-payload" ∷ parameter ds ∷ []
two_pieces ds digits = rw (one_piece ds digits) refl

essence_trimmed : codes "application/coap-payload" ≡ trim (codes "application/coap-payload")
unfolding trim is_blank
essence_trimmed = refl

good_essence : is_essence (codes "application/coap-payload") ≡ true
unfolding is_essence slash_in is_tchar
good_essence = refl

named : (ds : List ℕ) → AllDigits ds → 0 < length ds → media_at (payload_text ds) ≡ Some (payload ds)
named ds digits some =
    let all : list_all is_parameter (parameter ds ∷ []) ≡ true = rw (good_parameter ds digits some) refl in
    is_named (payload_text ds) (codes "application/coap-payload") (codes "application/coap-payload") (parameter ds ∷ []) (two_pieces ds digits) essence_trimmed good_essence all

in_no_row : (ds : List ℕ) → table_format (payload ds) ≡ None
unfolding table_format is_foreign_text
in_no_row ds = refl

named_cf : (ds : List ℕ) → has_name (codes "cf") (parameter ds) ≡ true
unfolding has_name equals_in
named_cf ds = rw (long ds) refl

value_cf : (ds : List ℕ) → value_of (parameter ds) ≡ ds
unfolding value_of equals_in
value_cf ds = refl

numbered : (ds : List ℕ) (format : ℕ) → AllDigits ds → format_number ds ≡ Some format → payload_format (payload ds) ≡ Some format
unfolding payload_format
numbered ds format digits number = rw (parameter_trimmed ds digits, named_cf ds, value_cf ds, no_quotes ds digits) number

not_empty : (ds : List ℕ) → AllDigits ds → 0 < length ds → (length (trim (payload_text ds)) == 0) ≡ false
not_empty ds digits some =
    rw (text_trimmed ds digits) (ne_eqb (length (payload_text ds)) 0 (λ e. omega (arith, e, some, length-append (codes "application/coap-payload;cf=") ds)))

payload_returns : (policy : Policy) (format : ℕ) → format < 65536 → policy.pass ≡ true → format_at policy (payload_text (decimal format)) ≡ Ok (Some format)
payload_returns policy format small pass =
    let digits = are_digits format small in
    let some = has_digits format small in
    by_payload policy (payload_text (decimal format)) (payload (decimal format)) format (not_empty (decimal format) digits some)
    (named (decimal format) digits some) (in_no_row (decimal format)) (numbered (decimal format) format digits (read_back format small)) pass

this_or_later : (here : Bool) (policy : Policy) (format : ℕ) (row : Row) (later : List ℕ) → (format == row.0) ≡ here
    → format_at policy (row.1 ++ row.2) ≡ Ok (Some row.0) → format_at policy later ≡ Ok (Some format)
    → format_at policy (if here then row.1 ++ row.2 else later) ≡ Ok (Some format)
this_or_later true policy format row later e this others =
    subst (λ (n : ℕ). format_at policy (row.1 ++ row.2) ≡ Ok (Some n)) (sym (eqb-true format row.0 e)) this
this_or_later false policy format row later e this others = others

each_returns : (policy : Policy) (format : ℕ) (rows : List Row) → AllByRecursion (λ (row : Row). format_at policy (row.1 ++ row.2) ≡ Ok (Some row.0)) rows
    → format_at policy (payload_text (decimal format)) ≡ Ok (Some format) → format_at policy (text_in rows format) ≡ Ok (Some format)
each_returns policy format [] rows number = number
each_returns policy format (row ∷ rows) facts number =
    this_or_later (format == row.0) policy format row (text_in rows format) refl facts.0 (each_returns policy format rows facts.1 number)

rows_return : (policy : Policy) → AllByRecursion (λ (row : Row). format_at policy (row.1 ++ row.2) ≡ Ok (Some row.0)) table
unfolding trim is_tchar is_blank media_at slash_in equals_in is_essence is_pair is_parameter has_name value_of unquoted format_at table_format is_foreign_text
rows_return policy = (refl, (refl, (refl, (refl, (refl, (refl, (refl, tt)))))))

pub returns_all : (policy : Policy) (format : ℕ) → format < 65536 → policy.pass ≡ true → format_at policy (media_text format) ≡ Ok (Some format)
unfolding media_text
returns_all policy format small pass = each_returns policy format table (rows_return policy) (payload_returns policy format small pass)
