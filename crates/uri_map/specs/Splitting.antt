-- A request target split at its separators (RFC 3986, section 3; RFC 8075, section 5.3).
use Rattle.std.specs.Prelude.{ℕ, ◌+◌, ◌-◌, Bool, false, ◌&&◌, ◌==◌, nat_eq, nat_lt, List, [], ◌∷◌, length, take, drop, Option, Some, None, Result, Ok, Err, codes, if◌then◌else◌}
use Rattle.std.specs.List.{position_or_len, before_first, slice_split, starts_with, ends_with}
use Rattle.std.specs.Str.{str_eq_ignore_ascii_case}
use Rattle.std.specs.Char.{is_ascii_alphabetic}
use Rattle.uri_map.specs.Marks.{ends_authority, ends_scheme}
use Rattle.uri_map.specs.declared.fault.UriFault.{UriFault}
use Rattle.uri_map.specs.declared.fault.UriFault.TheVariants.{OtherBase, Scheme}

-- the text from the first byte on that passes p
abbrev pub from_first : (ℕ → Bool) → List ℕ → List ℕ
from_first p text = drop (position_or_len p text) text

-- what stands after the base
abbrev pub behind_base : List ℕ → List ℕ → Result (List ℕ) UriFault
behind_base base text =
    if starts_with nat_eq text base then Ok (drop (length base) text) else Err OtherBase

-- `coap` in any case
abbrev pub is_coap : List ℕ → Bool
is_coap scheme = str_eq_ignore_ascii_case scheme (codes "coap")

-- What stands before the first `/` or `?` is a scheme if it ends with `:` and `//` follows. The
-- scheme `coap`, in upper or lower case, is dropped with them; without a scheme, `coap` is meant.
abbrev pub behind_scheme : List ℕ → Result (List ℕ) UriFault
behind_scheme text =
    let front = before_first ends_authority text in
    let rest = from_first ends_authority text in
    if ends_with nat_eq front (codes ":") && starts_with nat_eq rest (codes "//")
    then (if is_coap (take (length front - 1) front)
    then Ok (drop 2 rest) else Err Scheme)
    else Ok text

-- Of what follows an authority: the path after its first `/`, unless the path is empty or just `/`.
abbrev pub written_path : List ℕ → Option (List ℕ)
written_path text =
    let path = before_first (λ b. b == 63) text in
    if nat_lt 1 (length path) then Some (drop 1 path) else None

-- the query after the first `?`, where there is one
abbrev pub written_query : List ℕ → Option (List ℕ)
written_query text =
    let end = position_or_len (λ b. b == 63) text in
    if nat_lt end (length text) then Some (drop (end + 1) text) else None

-- what stands between the separators
abbrev pub pieces : ℕ → Option (List ℕ) → List (List ℕ)
pieces separator None = []
pieces separator (Some text) = slice_split (λ b. b == separator) text

-- a scheme begins with a letter
abbrev pub is_scheme : List ℕ → Bool
is_scheme [] = false
is_scheme (first ∷ more) = is_ascii_alphabetic first

-- In absolute form what follows the authority, else all (RFC 9112, section 3.2).
abbrev pub origin_form : List ℕ → List ℕ
origin_form text =
    let scheme = before_first ends_scheme text in
    let rest = from_first ends_scheme text in
    if is_scheme scheme && starts_with nat_eq rest (codes "://")
    then from_first ends_authority (drop 3 rest) else text
