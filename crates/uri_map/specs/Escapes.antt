-- What the pieces of a path and a query stand for (RFC 3986, section 2.1).
use Rattle.std.specs.Prelude.{ℕ, Bool, true, false, not, ◌&&◌, ◌||◌, ◌==◌, List, [], ◌∷◌, Option, Result, Ok, Err, codes, if◌then◌else◌}
use Rattle.std.specs.Char.{is_ascii_hexdigit}
use Rattle.std.specs.Str.{is_utf8, bytes_eq}
use Rattle.percent_encoding.specs.Percent.{percent_decode}
use Rattle.uri_map.specs.declared.fault.UriFault.{UriFault}
use Rattle.uri_map.specs.declared.fault.UriFault.TheVariants.{Escape}
use Rattle.uri_map.specs.declared.escapes.Part.{Part}
use Rattle.uri_map.specs.declared.escapes.Part.TheVariants.{Path, Query}
use Rattle.uri_map.specs.Steps.{◌>>=◌}
use Rattle.uri_map.specs.Splitting.{pieces}

-- each `%` stands before two hexadecimal digits
abbrev pub well_escaped : List ℕ → Bool
well_escaped [] = true
well_escaped (b ∷ []) = not (b == 37)
well_escaped (b ∷ c ∷ []) = not (b == 37) && not (c == 37)
well_escaped (b ∷ c ∷ d ∷ rest) =
    if b == 37 then is_ascii_hexdigit c && is_ascii_hexdigit d && well_escaped rest
    else well_escaped (c ∷ d ∷ rest)

-- `.` or `..`, which no segment may be (RFC 3986, section 3.3)
abbrev pub is_dots : List ℕ → Bool
is_dots bytes = bytes_eq bytes (codes ".") || bytes_eq bytes (codes "..")

abbrev pub is_refused : Part → List ℕ → Bool
is_refused Path bytes = is_dots bytes
is_refused Query bytes = false

-- the text that a piece stands for
unfoldable pub text_at : Part → List ℕ → Result (List ℕ) UriFault
text_at part piece =
    if well_escaped piece && is_utf8 (percent_decode piece)
    && not (is_refused part (percent_decode piece))
    then Ok (percent_decode piece) else Err Escape

-- the text of each piece, or the first fault
abbrev pub texts_at : Part → List (List ℕ) → Result (List (List ℕ)) UriFault
texts_at part [] = Ok []
texts_at part (piece ∷ others) = do
  text ← text_at part piece
  texts ← texts_at part others
  Ok (text ∷ texts)

-- `/` between segments, `&` between arguments
abbrev pub separator : Part → ℕ
separator Path = 47
separator Query = 38

-- the texts of a part
abbrev pub part_at : Part → Option (List ℕ) → Result (List (List ℕ)) UriFault
part_at part written = texts_at part (pieces (separator part) written)
