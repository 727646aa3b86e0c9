-- What the functions say that only look at a text.
use Rattle.std.specs.Prelude.{◌≡◌, ◌≢◌, ◌<◌, All, ℕ, suc, Bool, true, false, List, length, Option, Some, None, Result, Ok, Err}
use Rattle.std.specs.Borrow.{Bor}
use Rattle.percent_encoding.specs.Percent.{percent_decode}
use Rattle.uri_map.specs.declared.fault.UriFault.{UriFault}
use Rattle.uri_map.specs.declared.fault.UriFault.TheVariants.{Escape}
use Rattle.uri_map.specs.declared.authority.Named.{Named}
use Rattle.uri_map.specs.declared.target.Host.{Host}
use Rattle.uri_map.specs.declared.target.Target.{Target}
use Rattle.uri_map.specs.declared.reading.Written.{Written}
use Rattle.uri_map.specs.declared.escapes.Part.{Part}
use Rattle.uri_map.specs.declared.escapes.Part.TheVariants.{Path, Query}
use Rattle.uri_map.specs.declared.room.Room.{Room}
use Rattle.uri_map.specs.Steps.{◌>>=◌, option_view}
use Rattle.uri_map.specs.Splitting.{pieces}
use Rattle.uri_map.specs.Escapes.{well_escaped, text_at, part_at, separator}
use Rattle.uri_map.specs.Limits.{number}
use Rattle.uri_map.specs.Rooms.{rooms_behind}
use Rattle.uri_map.specs.Authority.{is_name}

-- one more than the bytes that are left, where any text is
abbrev pub left_len : Option (List ℕ) → ℕ
left_len None = 0
left_len (Some text) = suc (length text)

abbrev pub view_next : Result (Option (Bor (List ℕ))) UriFault → Result (Option (List ℕ)) UriFault
view_next (Ok None) = Ok None
view_next (Ok (Some text)) = Ok (Some text.now)
view_next (Err e) = Err e

-- A good byte or escape stands in front of a shorter text; or the text is empty; or it is badly
-- escaped.
abbrev pub Escapes : Result (Option (List ℕ)) UriFault → List ℕ → Type 0
Escapes (Ok None) text = well_escaped text ≡ true
Escapes (Ok (Some rest)) text = (well_escaped text ≡ well_escaped rest)
    × (length rest < length text)
Escapes (Err e) text = (e ≡ Escape) × (well_escaped text ≡ false)

-- The result is Ok where the test is true, and else the fault.
abbrev pub Tells : UriFault → Result (Unit {0}) UriFault → Bool → Type 0
Tells fault (Ok x) test = test ≡ true
Tells fault (Err e) test = (e ≡ fault) × (test ≡ false)

-- ASCII with no `%`
abbrev pub IsPlain : List ℕ → Type 0
IsPlain text = All (λ b. (b < 128) × (b ≢ 37)) text

-- The result is the length of the text that a piece stands for, or its fault.
abbrev pub Measures : Result ℕ UriFault → Part → List ℕ → Type 0
Measures (Ok n) part piece = (text_at part piece ≡ Ok (percent_decode piece))
    × (n ≡ length (percent_decode piece))
Measures (Err e) part piece = text_at part piece ≡ Err e

-- The result is the room that the options of a part leave, or the fault of the part.
abbrev pub Leaves : Result (Result Room UriFault) UriFault → Part → Option (List ℕ)
    → Result Room UriFault → Type 0
Leaves (Ok after) part text before = (texts : List (List ℕ)) × (part_at part text ≡ Ok texts)
    × (after ≡ (before >>= rooms_behind (number part) (pieces (separator part) text)))
Leaves (Err e) part text before = part_at part text ≡ Err e

-- the host that stands for a host before memory is taken
abbrev pub host_view : Named → Host
host_view (Named.Name name) = Host.Name name
host_view (Named.V4 address) = Host.V4 address
host_view (Named.V6 address) = Host.V6 address

-- The result is the name where it is one.
abbrev pub NameFound : Option (List ℕ) → List ℕ → Type 0
NameFound None name = is_name name ≡ false
NameFound (Some found) name = (found ≡ name) × (is_name name ≡ true)

-- The parts that are written stand for the target that reading gives.
abbrev pub Stands : Written → Result Target UriFault → Type 0
Stands w read =
    (path : List (List ℕ)) × (query : List (List ℕ)) × (part_at Path (option_view w.path) ≡ Ok path)
    × (part_at Query (option_view w.query) ≡ Ok query)
    × (read ≡ Ok (record { host = host_view w.host; port = w.port; path = path; query = query }))

-- The target has the values of the parts that are written.
abbrev pub IsBuilt : Written → Target → Type 0
IsBuilt w t =
    (t.host ≡ host_view w.host) × (t.port ≡ w.port)
    × (part_at Path (option_view w.path) ≡ Ok t.path)
    × (part_at Query (option_view w.query) ≡ Ok t.query)
