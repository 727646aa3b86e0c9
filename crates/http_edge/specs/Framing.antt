-- How the body after a head is framed, and which heads are refused (RFC 9112, sections 3.2 and 6).
use Rattle.std.specs.Prelude.{◌≡◌, ℕ, ◌<◌, List, [], ◌∷◌, length, map, not, ◌==◌, ◌&&◌, nat_lt, if◌then◌else◌, codes}
use Rattle.std.specs.Char.{is_ascii_digit}
use Rattle.std.specs.List.{list_all}
use Rattle.std.specs.Str.Parse.{digits_value}
use Rattle.limits.specs.declared.TheConstants.{MAX_BODY_LEN}
use Rattle.httparse.specs.Grammar.{RequestHead}
use Rattle.httparse.specs.Spans.{name_and_value}
use Rattle.http_edge.specs.declared.request.BadKind.TheVariants.{Syntax, Large, Coding}
use Rattle.http_edge.specs.declared.framing.Framing.{Framing}
use Rattle.http_edge.specs.declared.framing.Framing.TheVariants.{Sized, Chunked, Refused}
use Rattle.http_edge.specs.declared.framing.Found.{Found}
use Rattle.http_edge.specs.declared.framing.Values.{Values}
use Rattle.http_edge.specs.declared.framing.Values.TheVariants.{Nothing, One, More}
use Rattle.http_edge.specs.Lists.{same_name, named, lists}

-- The framing by a length.
abbrev pub within_limit : ℕ → Framing
within_limit n = if nat_lt MAX_BODY_LEN n then Refused Large else Sized n

-- The framing by a Content-Length with that value, which is to be digits.
unfoldable pub sized_at : List ℕ → Framing
sized_at [] = Refused Syntax
sized_at (b ∷ bytes) =
    if list_all is_ascii_digit (b ∷ bytes)
    then within_limit (digits_value 10 (b ∷ bytes))
    else Refused Syntax

-- The framing by Content-Length, from the values of its fields (RFC 9112, section 6.2).
abbrev pub sized_by : List (List ℕ) → Framing
sized_by [] = Sized 0
sized_by (v ∷ []) = sized_at v
sized_by (v ∷ w ∷ more) = Refused Syntax

-- The framing by Transfer-Encoding, from the values of its fields (RFC 9112, section 6.1).
abbrev pub coded_by : List (List ℕ) → Framing
coded_by [] = Refused Coding
coded_by (coding ∷ []) = if same_name coding (codes "chunked") then Chunked else Refused Coding
coded_by (v ∷ w ∷ more) = Refused Coding

-- The framing from the values of both; they don't stand together, and HTTP/1.0 has no codings.
abbrev pub framed_by : ℕ → List (List ℕ) → List (List ℕ) → Framing
framed_by minor [] lengths = sized_by lengths
framed_by minor (c ∷ codings) [] = if minor == 0 then Refused Syntax else coded_by (c ∷ codings)
framed_by minor (c ∷ codings) (l ∷ lengths) = Refused Syntax

-- The first refusal of a head of that version with those fields, or how its body is framed.
unfoldable pub framing_of : ℕ → List (List ℕ × List ℕ) → Framing
framing_of minor fields =
    if (minor == 1) && not (length (named (codes "host") fields) == 1) then Refused Syntax
    else framed_by minor (named (codes "transfer-encoding") fields)
    (named (codes "content-length") fields)

abbrev pub framing : RequestHead → Framing
framing h = framing_of h.minor (map name_and_value h.fields)

-- What was found of values: none, the one, or more.
abbrev pub Finds : Values → List (List ℕ) → Type 0
Finds Nothing vs = vs ≡ []
Finds (One v) vs = vs ≡ v.now ∷ []
Finds More vs = 1 < length vs

-- What was found of the fields that say how a message is framed, and what its client wants.
abbrev pub IsFound : Found → List (List ℕ × List ℕ) → Type 0
IsFound f fields = Finds f.hosts (named (codes "host") fields)
    × Finds f.codings (named (codes "transfer-encoding") fields)
    × Finds f.lengths (named (codes "content-length") fields)
    × (f.closes ≡ lists (codes "connection") (codes "close") fields)
    × (f.expects ≡ lists (codes "expect") (codes "100-continue") fields)
