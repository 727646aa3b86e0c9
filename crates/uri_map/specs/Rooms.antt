-- What is left of the room for options, one option after the other.
use Rattle.std.specs.Prelude.{ℕ, ◌+◌, ◌-◌, ◌||◌, nat_lt, List, [], ◌∷◌, length, Result, Ok, Err, if◌then◌else◌}
use Rattle.percent_encoding.specs.Percent.{percent_decode}
use Rattle.uri_map.specs.declared.fault.UriFault.{UriFault}
use Rattle.uri_map.specs.declared.fault.UriFault.TheVariants.{TooLong}
use Rattle.uri_map.specs.declared.room.Room.{Room}
use Rattle.uri_map.specs.declared.target.Host.{Host}
use Rattle.uri_map.specs.Steps.{◌>>=◌}
use Rattle.uri_map.specs.Limits.{extra}

abbrev pub all_room : Room
all_room = record { number = 0; left = 960 }

-- how many bytes an option takes after one of the number before
abbrev pub taken : ℕ → ℕ → ℕ → ℕ
taken before number len = 1 + extra (number - before) + extra len + len

-- the room after an option of the number with a value of so many bytes
unfoldable pub room_behind : ℕ → ℕ → Room → Result Room UriFault
room_behind number len room =
    if nat_lt 255 len || nat_lt room.left (taken room.number number len) then Err TooLong
    else Ok (record { number = number; left = room.left - taken room.number number len })

-- and after a further one, where any room was left
abbrev pub further_room : ℕ → ℕ → Result Room UriFault → Result Room UriFault
further_room number len room = room >>= room_behind number len

-- and after one for each piece
abbrev pub rooms_behind : ℕ → List (List ℕ) → Room → Result Room UriFault
rooms_behind number [] room = Ok room
rooms_behind number (piece ∷ others) room =
    room_behind number (length (percent_decode piece)) room
    >>= λ next. rooms_behind number others next

abbrev pub host_room : Host → Room → Result Room UriFault
host_room (Host.Name name) room = room_behind 3 (length name) room
host_room (Host.V4 address) room = Ok room
host_room (Host.V6 address) room = Ok room

unfoldable pub room_for : Host → List (List ℕ) → List (List ℕ) → Result Room UriFault
room_for host path query = do
  first ← host_room host all_room
  second ← rooms_behind 11 path first
  rooms_behind 15 query second
