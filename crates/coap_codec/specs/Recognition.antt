-- Which options of a response are recognised, and what those that aren't allow.
use Rattle.std.specs.Prelude.{ℕ, ◌/◌, ◌%◌, Bool, true, false, not, ◌&&◌, ◌||◌, List, [], ◌∷◌, length, map, filter, find, Option, option_map, is_some, ◌==◌, nat_le, if◌then◌else◌}
use Rattle.std.specs.List.{list_any, list_all}
use Rattle.std.specs.Option.{option_map_or}
use Rattle.coap_codec.specs.Spelling.{Entry, Content}
use Rattle.coap_codec.specs.declared.options.OptionDefinition.{OptionDefinition}
use Rattle.coap_codec.specs.declared.options.Occurrence.{Occurrence}
use Rattle.coap_codec.specs.declared.options.Occurrence.TheVariants.{Repeated}
use Rattle.coap_codec.specs.Options.{is_critical_number, is_unsafe_number, definition_of, counts}
use Rattle.coap_codec.specs.Values.{uint}

-- A Block value of size exponent 7 is reserved (RFC 7959 section 2.2).
abbrev pub is_reserved_block : Entry → Bool
is_reserved_block o = ((o.number == 23) || (o.number == 27)) && (uint o.value % 8 == 7)

-- The option is defined for responses, and its value has a length that the table allows (RFC 7252
-- section 5.4.3).
abbrev pub fits_row : Entry → OptionDefinition → Bool
fits_row o r =
    counts r.in_response && (nat_le r.min_len (length o.value) && nat_le (length o.value) r.max_len)

abbrev pub is_defined : Entry → Bool
is_defined o =
    option_map_or (fits_row o) (definition_of o.number) false && not (is_reserved_block o)

-- the values of the options with this number that are defined, in order, and the first of them
abbrev pub values_of : ℕ → Content → List (List ℕ)
values_of number m =
    map (λ (o : Entry). o.value)
    (filter (λ (o : Entry). (o.number == number) && is_defined o) m.options)

abbrev pub value_of : ℕ → Content → Option (List ℕ)
value_of number m =
    option_map (λ (o : Entry). o.value)
    (find (λ (o : Entry). (o.number == number) && is_defined o) m.options)

abbrev pub is_repeated : Occurrence → Bool
is_repeated Repeated = true
is_repeated _ = false

abbrev pub may_repeat : Entry → Bool
may_repeat o = option_map_or (λ (r : OptionDefinition). is_repeated r.in_response)
    (definition_of o.number) false

-- The options that are not recognised, after those with these numbers: those that are not defined,
-- and a second one where only one may stand (RFC 7252 section 5.4.5).
abbrev pub strays : List ℕ → List Entry → List Entry
strays seen [] = []
strays seen (o ∷ os) =
    if is_defined o && (may_repeat o || not (list_any (λ (n : ℕ). n == o.number) seen))
    then strays (o.number ∷ seen) os else o ∷ strays seen os

-- An option that is not recognised may be left out of what is passed on if it is elective (RFC 7252
-- section 5.4.1), and safe to forward or in the table of options (section 5.4.2).
abbrev pub may_be_left_out : ℕ → Bool
may_be_left_out n =
    not (is_critical_number n) && (not (is_unsafe_number n) || is_some (definition_of n))

-- If no critical option is a stray, the options can be processed (RFC 7252 section 5.4.1). If each
-- stray may be left out, the message can be passed on (section 5.7.1).
abbrev pub may_pass : Bool → ℕ → Bool
may_pass true n = may_be_left_out n
may_pass false n = not (is_critical_number n)

abbrev pub is_processable : List Entry → Bool
is_processable os = list_all (λ (o : Entry). may_pass false o.number) (strays [] os)

abbrev pub is_forwardable : List Entry → Bool
is_forwardable os = list_all (λ (o : Entry). may_pass true o.number) (strays [] os)

abbrev pub class_of : Content → ℕ
class_of m = m.code / 32

-- A response is rejected if its class is reserved or it cannot be processed (RFC 7252 sections 4.2,
-- 4.3 and 5.4.1).
abbrev pub is_rejected : Content → Bool
is_rejected m = (class_of m == 1)
    || ((class_of m == 6) || ((class_of m == 7) || not (is_processable m.options)))

-- A code that ends a request: of class 2, 4 or 5, and none of 2.03, which only a request with an
-- ETag asks for, and of 2.31 and 4.08, which answer blocks (RFC 7252 sections 5.9 and 5.10.6, RFC
-- 7959 section 2.9).
abbrev pub is_final : Content → Bool
is_final m =
    ((class_of m == 2) || ((class_of m == 4) || (class_of m == 5)))
    && (not (m.code == 67) && (not (m.code == 95) && not (m.code == 136)))
