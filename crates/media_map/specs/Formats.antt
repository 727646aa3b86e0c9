-- CoAP content formats and media types (RFC 7252 section 12.3; RFC 8075 sections 6.2 and 6.3).
use Rattle.std.specs.Prelude.{ℕ, ◌+◌, ◌-◌, ◌*◌, List, [], ◌∷◌, ◌++◌, length, take, drop, Bool, true, ◌==◌, ◌||◌, ◌&&◌, not, nat_lt, nat_le, if◌then◌else◌, codes, Option, Some, None, Result, Ok, Err}
use Rattle.std.specs.Fmt.{decimal}
use Rattle.std.specs.Option.{option_and_then}
use Rattle.media_map.specs.declared.policy.Policy.{Policy}
use Rattle.media_map.specs.declared.fault.MediaFault.{MediaFault}
use Rattle.media_map.specs.declared.fault.MediaFault.TheVariants.{Unmapped, PassThrough, Syntax}
use Rattle.media_map.specs.Texts.{trim}
use Rattle.media_map.specs.MediaTypes.{Named, media_at, same, value_in, unquoted}

-- A format, its type/subtype, and the parameters that are written after it.
abbrev pub Row : Type 0
Row = ℕ × List ℕ × List ℕ

abbrev pub table : List Row
table =
    (0, codes "text/plain", codes ";charset=utf-8")
    ∷ (40, codes "application/link-format", [])
    ∷ (41, codes "application/xml", [])
    ∷ (42, codes "application/octet-stream", [])
    ∷ (47, codes "application/exi", [])
    ∷ (50, codes "application/json", [])
    ∷ (60, codes "application/cbor", [])
    ∷ []

-- Every format has a media type: that of its row, or its number as application/coap-payload.
abbrev pub text_in : List Row → ℕ → List ℕ
text_in [] format = codes "application/coap-payload;cf=" ++ decimal format
text_in (row ∷ rows) format = if format == row.0 then row.1 ++ row.2 else text_in rows format

unfoldable pub media_text : ℕ → List ℕ
media_text format = text_in table format

-- text/plain is UTF-8 or US-ASCII, which is where no charset stands.
abbrev pub has_charset : Option (List ℕ) → Bool
has_charset None = true
has_charset (Some value) =
    same (unquoted value) (codes "utf-8") || same (unquoted value) (codes "us-ascii")

unfoldable pub is_foreign_text : Named → Bool
is_foreign_text m = same m.essence (codes "text/plain")
    && not (has_charset (value_in (codes "charset") m.parameters))

-- The format of the table that a media type is. Parameters other than that charset don't matter.
abbrev pub format_in : List Row → List ℕ → Option ℕ
format_in [] essence = None
format_in (row ∷ rows) essence = if same essence row.1 then Some row.0 else format_in rows essence

unfoldable pub table_format : Named → Option ℕ
table_format m = if is_foreign_text m then None else format_in table m.essence

-- application/coap-payload names a format itself: its cf is one to five digits, and at most 65535
-- (RFC 8075 section 6.2).
unfoldable pub number_with : ℕ → ℕ → Option ℕ
number_with n digit =
    if (nat_le 48 digit && nat_le digit 57) && nat_le (10 * n + (digit - 48)) 65535
    then Some (10 * n + (digit - 48)) else None

abbrev pub number_from : ℕ → List ℕ → Option ℕ
number_from n [] = Some n
number_from n (digit ∷ digits) = option_and_then (λ m. number_from m digits) (number_with n digit)

unfoldable pub format_number : List ℕ → Option ℕ
format_number digits =
    if nat_lt 0 (length digits) && nat_le (length digits) 5 then number_from 0 digits else None

unfoldable pub payload_format : Named → Option ℕ
payload_format m =
    if same m.essence (codes "application/coap-payload")
    then option_and_then (λ value. format_number (unquoted value))
    (value_in (codes "cf") m.parameters)
    else None

-- The nearest format for a media type that has none (RFC 8075 section 6.3).
unfoldable pub begins : List ℕ → List ℕ → Bool
begins text front = nat_le (length front) (length text) && same (take (length front) text) front

unfoldable pub ends : List ℕ → List ℕ → Bool
ends text back =
    nat_le (length back) (length text) && same (drop (length text - length back) text) back

unfoldable pub loose_format : Named → ℕ
loose_format m =
    if is_foreign_text m then 42 else (
    if same m.essence (codes "text/xml") then 41 else (
    if begins m.essence (codes "text/") then 0 else (
    if begins m.essence (codes "application/") && ends m.essence (codes "+xml") then 41 else (
    if begins m.essence (codes "application/") && ends m.essence (codes "+json") then 50 else 42))))

-- What a Content-Type says: by the table; or else by coap-payload, which is passed through or
-- refused; or else the nearest format, or none.
abbrev pub last_of : Policy → Named → Result (Option ℕ) MediaFault
last_of policy m = if policy.loose then Ok (Some (loose_format m)) else Err Unmapped

abbrev pub payload_or_last : Policy → Named → Option ℕ → Result (Option ℕ) MediaFault
payload_or_last policy m (Some format) = if policy.pass then Ok (Some format) else Err PassThrough
payload_or_last policy m None = last_of policy m

abbrev pub table_or_payload : Policy → Named → Option ℕ → Result (Option ℕ) MediaFault
table_or_payload policy m (Some format) = Ok (Some format)
table_or_payload policy m None = payload_or_last policy m (payload_format m)

abbrev pub named_format : Policy → Option Named → Result (Option ℕ) MediaFault
named_format policy None = Err Syntax
named_format policy (Some m) = table_or_payload policy m (table_format m)

unfoldable pub format_at : Policy → List ℕ → Result (Option ℕ) MediaFault
format_at policy text =
    if length (trim text) == 0 then Ok None else named_format policy (media_at text)
