-- Which requests one response may answer (RFC 7252 section 5.6).
use Rattle.std.specs.Prelude.{◌≡◌, ℕ, Bool, true, false, not, ◌&&◌, List, length, Option, Some, None, is_none, ◌==◌, if◌then◌else◌}
use Rattle.cache_key.specs.declared.place.Place.{Place}
use Rattle.cache_key.specs.declared.digest.Digests.{Digests}
use Rattle.cache_key.specs.Digests.{digests_of}
use Rattle.cache_key.specs.Keys.{CacheKey, key_of, place_of, same_key, same_place}
use Rattle.ask_model.specs.Requests.{CoapRequest, Sense, Requests, Refuses, Manner, asking}

-- what a response to it would be kept under
abbrev pub asked_key : CoapRequest → CacheKey
asked_key q = key_of q.peer q.target q.accept

-- the place that it reads or changes
abbrev pub asked_place : CoapRequest → Place
asked_place q = place_of q.peer q.target

-- a GET, which has no body (RFC 7252 section 5.8.1)
abbrev pub is_get : CoapRequest → Bool
is_get q = (q.method == 1) && (is_none q.format && (length q.body == 0))

-- Both are GETs under one key: their messages differ by ID and token alone.
abbrev pub asks_same : CoapRequest → CoapRequest → Bool
asks_same q r = is_get q && (is_get r && same_key (asked_key q) (asked_key r))

-- Such requests go to one server, in equal messages, in whichever manner.
abbrev pub AsksAlike : Type 0
AsksAlike =
    (q r : CoapRequest) → asks_same q r ≡ true
    → (q.peer ≡ r.peer)
    × ((manner : Manner) (mid : ℕ) (token : List ℕ)
    → asking manner q None mid token ≡ asking manner r None mid token)

-- the key that a GET reads
abbrev pub key_read : Sense → Option CacheKey
key_read (Requests q) = if is_get q then Some (asked_key q) else None
key_read (Refuses cause status) = None

-- the digests of the key that a request asks under
abbrev pub asked_digests : Sense → Digests
asked_digests (Requests q) = digests_of (asked_key q)
asked_digests (Refuses cause status) = record { place = 0; key = 0 }

-- the place that any other request changes
abbrev pub place_written : Sense → Option Place
place_written (Requests q) = if q.method == 1 then None else Some (asked_place q)
place_written (Refuses cause status) = None

-- the same of what requests mean: a refusal asks for nothing
abbrev pub asks_same_by : Sense → Sense → Bool
asks_same_by (Requests q) (Requests r) = asks_same q r
asks_same_by _ _ = false

-- A write changes what is read at its place (RFC 7252 section 5.9.2): what was read there before it
-- is out of date.
abbrev pub writes_to : Place → CoapRequest → Bool
writes_to place w = not (w.method == 1) && same_place place (asked_place w)

abbrev pub outdates_by : Sense → Sense → Bool
outdates_by (Requests w) (Requests q) = writes_to (asked_place q) w
outdates_by _ _ = false
