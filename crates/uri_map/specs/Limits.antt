-- The options that carry a target (RFC 7252, sections 5.10 and 6.4), and their limits.
use Rattle.std.specs.Prelude.{ℕ, ◌+◌, ◌-◌, Bool, ◌&&◌, nat_lt, nat_le, List, [], ◌∷◌, ◌++◌, length, map, Result, Ok, Err, if◌then◌else◌}
use Rattle.std.specs.List.{list_all}
use Rattle.coap_codec.specs.Spelling.{Entry}
use Rattle.uri_map.specs.declared.fault.UriFault.{UriFault}
use Rattle.uri_map.specs.declared.fault.UriFault.TheVariants.{TooLong}
use Rattle.uri_map.specs.declared.escapes.Part.{Part}
use Rattle.uri_map.specs.declared.escapes.Part.TheVariants.{Path, Query}
use Rattle.uri_map.specs.declared.target.Host.{Host}
use Rattle.uri_map.specs.declared.target.Host.TheVariants.{Name, V4, V6}
use Rattle.uri_map.specs.declared.target.Target.{Target}

-- Uri-Path is 11, Uri-Query 15
abbrev pub number : Part → ℕ
number Path = 11
number Query = 15

abbrev pub option_with : ℕ → List ℕ → Entry
option_with n value = record { number = n; value = value }

abbrev pub options_with : ℕ → List (List ℕ) → List Entry
options_with n values = map (option_with n) values

-- Uri-Host, which is 3, for a name alone
abbrev pub host_options : Host → List Entry
host_options (Name name) = option_with 3 name ∷ []
host_options (V4 address) = []
host_options (V6 address) = []

-- Uri-Host, each Uri-Path, each Uri-Query; never Uri-Port
abbrev pub options_for : Host → List (List ℕ) → List (List ℕ) → List Entry
options_for host path query =
    host_options host ++ options_with (number Path) path ++ options_with (number Query) query

abbrev pub uri_options : Target → List Entry
uri_options t = options_for t.host t.path t.query

-- how many bytes extend the nibble of a number
abbrev pub extra : ℕ → ℕ
extra n = if nat_lt n 13 then 0 else (if nat_lt n 269 then 1 else 2)

-- how many bytes the options take after one of the number before
abbrev pub spelled_len : ℕ → List Entry → ℕ
spelled_len before [] = 0
spelled_len before (o ∷ os) =
    1 + extra (o.number - before) + extra (length o.value) + length o.value
    + spelled_len o.number os

abbrev pub is_short : Entry → Bool
is_short o = nat_le (length o.value) 255

-- each value has at most 255 bytes, and the options at most 960
abbrev pub fits : List Entry → Bool
fits os = list_all is_short os && nat_le (spelled_len 0 os) 960

abbrev pub within_limits : Target → Result Target UriFault
within_limits t = if fits (uri_options t) then Ok t else Err TooLong
