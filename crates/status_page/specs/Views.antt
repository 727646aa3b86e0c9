-- Which page a request is for, and by which status code it is answered (RFC 9110, section 15).
use Rattle.std.specs.Prelude.{ℕ, ◌==◌, ◌&&◌, Bool, true, false, List, [], ◌∷◌, ◌++◌, codes, decimal, drop, length, nat_eq, nat_le, Option, Some, None, option_map, Result, Ok, Err, if◌then◌else◌}
use Rattle.std.specs.List.{before_first, position_or_len, starts_with}
use Rattle.std.specs.Str.{all_ascii_digits, bytes_eq}
use Rattle.std.specs.Str.Parse.{digits_value}
use Rattle.code_map.specs.declared.method.Method.{Method}
use Rattle.code_map.specs.declared.method.Method.TheVariants.{Get, Head}
use Rattle.code_map.specs.Methods.{method_named}
use Rattle.http_edge.specs.Kinds.{status_of}
use Rattle.http_edge.specs.Reading.{Item, asked, bad}
use Rattle.uri_map.specs.Splitting.{origin_form}
use Rattle.status_page.specs.declared.asked.View.{View}
use Rattle.status_page.specs.declared.asked.View.TheVariants.{People, Health, Metrics, Journal, Request}
use Rattle.status_page.specs.declared.asked.Refusal.{Refusal}
use Rattle.status_page.specs.declared.asked.Refusal.TheVariants.{Bad, Method as NoRead, Path}
use Rattle.status_page.specs.declared.status.Phase.{Phase}
use Rattle.status_page.specs.declared.status.Phase.TheVariants.{Serving, Turning}

-- the path of each page
abbrev pub path_of : View → List ℕ
path_of People = codes "/"
path_of Health = codes "/health"
path_of Metrics = codes "/metrics"
path_of (Journal n) = codes "/journal"
path_of (Request n) = codes "/journal/" ++ decimal n

-- the pages with one path alone
abbrev pub views : List View
views = People ∷ Health ∷ Metrics ∷ []

-- the one of these pages that has the path
abbrev pub named_in : List View → List ℕ → Option View
named_in [] path = None
named_in (v ∷ vs) path = if bytes_eq path (path_of v) then Some v else named_in vs path

-- what stands before the first `?`
abbrev pub is_mark : ℕ → Bool
is_mark b = b == 63

abbrev pub without_query : List ℕ → List ℕ
without_query text = before_first is_mark text

-- what stands from the first `?` on
abbrev pub query_in : List ℕ → List ℕ
query_in text = drop (position_or_len is_mark text) text

-- the number that decimal digits write
abbrev pub decimal_in : List ℕ → Option ℕ
decimal_in digits = if all_ascii_digits digits then Some (digits_value 10 digits) else None

-- the number of an entry, in 1 to 9 digits
abbrev pub number_in : List ℕ → Option ℕ
number_in digits =
    if nat_le 1 (length digits) && nat_le (length digits) 9 then decimal_in digits else None

-- from which entry on the journal is read: `?from=N`, or 0
abbrev pub first_in : List ℕ → Option ℕ
first_in [] = Some 0
first_in (c ∷ query) =
    if starts_with nat_eq (c ∷ query) (codes "?from=") then number_in (drop 6 (c ∷ query)) else None

-- what stands after `/journal`: nothing, or `/N`
abbrev pub journal_by : List ℕ → List ℕ → Option View
journal_by [] query = option_map Journal (first_in query)
journal_by (c ∷ digits) query = if c == 47 then option_map Request (number_in digits) else None

abbrev pub journal_at : List ℕ → List ℕ → Option View
journal_at path query =
    if starts_with nat_eq path (codes "/journal") then journal_by (drop 8 path) query else None

abbrev pub or_else : Option View → Option View → Option View
or_else (Some v) other = Some v
or_else None other = other

-- The page with this path and query. Of the journal alone the query is looked at.
abbrev pub view_at : List ℕ → Option View
view_at text =
    or_else (named_in views (without_query text)) (journal_at (without_query text) (query_in text))

abbrev pub found : Option View → Result View Refusal
found (Some v) = Ok v
found None = Err Path

-- Pages are read by GET and HEAD alone.
abbrev pub view_by : Option Method → List ℕ → Result View Refusal
view_by (Some Get) text = found (view_at text)
view_by (Some Head) text = found (view_at text)
view_by _ text = Err NoRead

abbrev pub view_asked : Item → Result View Refusal
-- path and query are those of the target (RFC 9112, section 3.2)
view_asked (asked r) = view_by (method_named r.method) (origin_form r.target)
view_asked (bad kind) = Err (Bad kind)

abbrev pub is_head : Option Method → Bool
is_head (Some Head) = true
is_head _ = false

abbrev pub asks_head : Item → Bool
asks_head (asked r) = is_head (method_named r.method)
asks_head (bad kind) = false

-- A gateway that takes no request isn't in health.
abbrev pub health_code : Phase → ℕ
health_code Serving = 200
health_code _ = 503

-- Nobody reads a journal that is turned over, and there may be no such entry in it.
abbrev pub journal_code : Phase → Bool → ℕ
journal_code Turning has = 503
journal_code _ has = if has then 200 else 404

-- where the journal has what is asked for, or hasn't
abbrev pub code_of : Result View Refusal → Phase → Bool → ℕ
code_of (Ok Health) phase has = health_code phase
code_of (Ok (Journal n)) phase has = journal_code phase has
code_of (Ok (Request n)) phase has = journal_code phase has
code_of (Ok _) phase has = 200
code_of (Err (Bad kind)) phase has = status_of kind
code_of (Err NoRead) phase has = 405
code_of (Err Path) phase has = 404
