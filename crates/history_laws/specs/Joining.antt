-- Which open exchange a GET reads along: that of an equal GET, where no write to its place has
-- ended since it was opened.
use Rattle.std.specs.Prelude.{ℕ, Bool, false, not, ◌&&◌, List, find, Option, Some, None, ◌==◌, nat_lt}
use Rattle.std.specs.Option.{option_map_or}
use Rattle.std.specs.List.{list_any}
use Rattle.cache_key.specs.declared.place.Place.{Place}
use Rattle.cache_key.specs.Keys.{same_place}
use Rattle.ask_model.specs.Requests.{CoapRequest}
use Rattle.ask_model.specs.Sharing.{asked_place, asks_same}
use Rattle.history_laws.specs.Readings.{Noted}
use Rattle.history_laws.specs.Exchanges.{Begun, begun, openings, End, end_of, open_exchanges}

-- a write that was begun at this place
abbrev pub writes_at : Place → Begun → Bool
writes_at place b = not (b.request.method == 1) && same_place place (asked_place b.request)

abbrev pub is_write_at : Place → Option Begun → Bool
is_write_at place b = option_map_or (writes_at place) b false

abbrev pub ended_after : ℕ → Option End → Bool
ended_after n None = false
ended_after n (Some e) = nat_lt n e.number

abbrev pub outruns : List Noted → Place → ℕ → ℕ → Bool
outruns l place n w = is_write_at place (begun l w) && ended_after n (end_of l w)

-- A write to the place ended after the entry with this number: what was read of it before may be
-- out of date.
abbrev pub outrun : List Noted → Place → ℕ → Bool
outrun l place n = list_any (outruns l place n) (openings l)

abbrev pub is_asked_by : CoapRequest → Begun → Bool
is_asked_by q b = asks_same q b.request

abbrev pub asks_the_same : CoapRequest → Option Begun → Bool
asks_the_same q b = option_map_or (is_asked_by q) b false

abbrev pub is_joinable : List Noted → CoapRequest → ℕ → Bool
is_joinable l q o = asks_the_same q (begun l o) && not (outrun l (asked_place q) o)

-- the exchange that it joins, if there is one
abbrev pub joins : List Noted → CoapRequest → Option ℕ
joins l q = find (is_joinable l q) (open_exchanges l)
