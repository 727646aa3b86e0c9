-- The options that are known here, and what the bits of a number say (RFC 7252, section 5.4.6).
use Rattle.std.specs.Prelude.{ℕ, Bool, true, false, ◌/◌, ◌%◌, ◌==◌, List, [], ◌∷◌, Option, find}
use Rattle.std.specs.Option.{option_map_or}
use Rattle.coap_codec.specs.declared.options.OptionName.{OptionName}
use Rattle.coap_codec.specs.declared.options.OptionName.TheVariants.{IfMatch, UriHost, ETag, IfNoneMatch, Observe, UriPort, LocationPath, UriPath, ContentFormat, MaxAge, UriQuery, Accept, LocationQuery, Block2, Block1, Size2, ProxyUri, ProxyScheme, Size1}
use Rattle.coap_codec.specs.declared.options.Occurrence.{Occurrence}
use Rattle.coap_codec.specs.declared.options.Occurrence.TheVariants.{Never, Once, Repeated}
use Rattle.coap_codec.specs.declared.options.OptionDefinition.{OptionDefinition}

-- bit 0
abbrev pub is_critical_number : ℕ → Bool
is_critical_number n = n % 2 == 1

-- bit 1
abbrev pub is_unsafe_number : ℕ → Bool
is_unsafe_number n = n / 2 % 2 == 1

-- bit 1 is 0, and bits 2 to 4 are 1
abbrev pub is_no_cache_key_number : ℕ → Bool
is_no_cache_key_number n = n / 2 % 16 == 14

-- The columns C, U and N of the standards' tables.
pub record Flags : Type 0 where
  pub critical : Bool
  pub unsafe_to_forward : Bool
  pub no_cache_key : Bool

abbrev row : ℕ → OptionName → ℕ → ℕ → Flags → Occurrence → Occurrence → OptionDefinition
row number name least most flags in_request in_response = record {
  number = number;
  name = name;
  min_len = least;
  max_len = most;
  critical = flags.critical;
  unsafe_to_forward = flags.unsafe_to_forward;
  no_cache_key = flags.no_cache_key;
  in_request = in_request;
  in_response = in_response;
}

abbrev critical_unsafe : Flags
critical_unsafe = record { critical = true; unsafe_to_forward = true; no_cache_key = false }

abbrev critical_safe : Flags
critical_safe = record { critical = true; unsafe_to_forward = false; no_cache_key = false }

abbrev elective_unsafe : Flags
elective_unsafe = record { critical = false; unsafe_to_forward = true; no_cache_key = false }

abbrev elective_safe : Flags
elective_safe = record { critical = false; unsafe_to_forward = false; no_cache_key = false }

abbrev elective_no_cache_key : Flags
elective_no_cache_key = record { critical = false; unsafe_to_forward = false; no_cache_key = true }

-- RFC 7252, section 5.10, table 4; RFC 7641, section 2; RFC 7959, sections 2.1 and 4.
abbrev pub table : List OptionDefinition
table =
    row 1 IfMatch 0 8 critical_safe Repeated Never
    ∷ row 3 UriHost 1 255 critical_unsafe Once Never
    ∷ row 4 ETag 1 8 elective_safe Repeated Once
    ∷ row 5 IfNoneMatch 0 0 critical_safe Once Never
    ∷ row 6 Observe 0 3 elective_unsafe Once Once
    ∷ row 7 UriPort 0 2 critical_unsafe Once Never
    ∷ row 8 LocationPath 0 255 elective_safe Never Repeated
    ∷ row 11 UriPath 0 255 critical_unsafe Repeated Never
    ∷ row 12 ContentFormat 0 2 elective_safe Once Once
    ∷ row 14 MaxAge 0 4 elective_unsafe Never Once
    ∷ row 15 UriQuery 0 255 critical_unsafe Repeated Never
    ∷ row 17 Accept 0 2 critical_safe Once Never
    ∷ row 20 LocationQuery 0 255 elective_safe Never Repeated
    ∷ row 23 Block2 0 3 critical_unsafe Once Once
    ∷ row 27 Block1 0 3 critical_unsafe Once Once
    ∷ row 28 Size2 0 4 elective_no_cache_key Once Once
    ∷ row 35 ProxyUri 1 1034 critical_unsafe Once Never
    ∷ row 39 ProxyScheme 1 255 critical_unsafe Once Never
    ∷ row 60 Size1 0 4 elective_no_cache_key Once Once
    ∷ []

-- the row of the number, if there is one
abbrev pub row_of : List OptionDefinition → ℕ → Option OptionDefinition
row_of rows number = find (λ r. r.number == number) rows

abbrev pub definition_of : ℕ → Option OptionDefinition
definition_of number = row_of table number

-- it counts there at all
abbrev pub counts : Occurrence → Bool
counts Never = false
counts Once = true
counts Repeated = true

abbrev pub is_read_in_response : ℕ → Bool
is_read_in_response number = option_map_or (λ r. counts r.in_response) (definition_of number) false
