-- What a device on a wire goes through.
use Rattle.std.specs.Prelude.{◌≡◌, ◌⊎◌, ◌≤◌, ℕ, List, [], ◌∷◌, ◌++◌, length, take, sum_by, flat_map, Option, Some, None, Bool, true, false, ◌&&◌, if◌then◌else◌}
use Rattle.uri_map.specs.declared.peer.Peer.{Peer}
use Rattle.demo_origin.specs.Values.{Device, Relation}
use Rattle.demo_origin.specs.Hearing.{Hears}
use Rattle.demo_origin.specs.Origins.{Ticks}
use Rattle.device_server.specs.Sending.{emptied}
use Rattle.demo_origin.specs.declared.state.Datagram.{Datagram}
use Rattle.demo_origin.specs.declared.execution.Taken.{Taken}
use Rattle.device_server.specs.declared.turns.Served.{Served}
use Rattle.device_server.specs.declared.turns.Turned.{Turned}

-- These came after those before, as far as it is known what did.
abbrev pub Grown : {X : Type 0} → Option (List X) → Option (List X) → List X → Type 0
Grown None new more = Unit {0}
Grown (Some old) None more = ⊥
Grown (Some old) (Some new) more = new ≡ old ++ more

-- One came, or none.
pub record GrownByOne {X : Type 0} (old new : Option (List X)) : Type 0 where
  pub more : List X
  pub grown : Grown old new more
  pub few : length more ≤ 1

abbrev pub datagram : Peer → List ℕ → Datagram
datagram p bytes = record { peer = p; bytes = bytes }

-- what was received into a buffer: how long it is, and who sent it
abbrev pub received : List ℕ → Option (ℕ × Peer) → Option Datagram
received buffer None = None
received buffer (Some r) = Some (datagram r.1 (take r.0 buffer))

abbrev pub listed : {X : Type 0} → Option X → List X
listed None = []
listed (Some x) = x ∷ []

pub record Turn : Type 0 where
  -- when it began to wait, and when it heard what came and looked at its timers
  pub begun : ℕ
  pub moment : ℕ
  -- the datagram that came
  pub came : Option Datagram
  -- whether there was memory to hear it, and to look
  pub turned : Turned
  -- the datagrams that went out
  pub sent : List Datagram

-- What comes is heard once, and counts as lost where there is no memory for it.
abbrev pub HearsCame : Relation → ℕ → Option Datagram → Bool → Device → Device → Type 0
HearsCame R t None b old new = new ≡ old
HearsCame R t (Some d) true old new =
    (taken : Option Taken) × Hears R t d.peer d.bytes old new taken
HearsCame R t (Some d) false old new = new ≡ old

abbrev pub LooksAt : ℕ → Bool → Device → Device → Type 0
LooksAt t true old new = Ticks t old new
LooksAt t false old new = new ≡ old

-- A turn: the device hears what came, looks at its timers, and gives out all that is to be sent.
pub record Takes (R : Relation) (u : Turn) (old new : Device) : Type 0 where
  pub heard : Device
  pub looked : Device
  pub hears : HearsCame R u.moment u.came u.turned.hears old heard
  pub looks : LooksAt u.moment u.turned.looks heard looked
  pub sends : u.sent ≡ looked.out
  pub is : new ≡ emptied looked

-- the clock failed, or the wire
abbrev pub Fails : Bool → Bool → Type 0
Fails clock wire = (clock ≡ true) ⊎ (wire ≡ true)

-- turns, one after another
abbrev pub TakesAll : Relation → List Turn → Device → Device → Type 0
TakesAll R [] old new = new ≡ old
TakesAll R (u ∷ us) old new = (middle : Device) × Takes R u old middle × TakesAll R us middle new

-- the moments that its clock told in a turn
abbrev pub told_in : Turn → List ℕ
told_in u = u.begun ∷ u.moment ∷ []

abbrev pub came_in : Turn → List Datagram
came_in u = listed u.came

abbrev pub sent_in : Turn → List Datagram
sent_in u = u.sent

-- a turn in which there was no memory for all
abbrev pub missed : Turned → ℕ
missed t = if t.hears && t.looks then 0 else 1

abbrev pub missed_in : Turn → ℕ
missed_in u = missed u.turned

-- One turn, and what the clock told, what came by the wire and what went out by it.
pub record GoesOn (R : Relation) (turned : Turned) (old new : Device)
    (told told_now : Option (List ℕ)) (came came_now sent sent_now : Option (List Datagram))
    : Type 0 where
  pub turn : Turn
  pub turned_is : turn.turned ≡ turned
  pub takes : Takes R turn old new
  pub tells : Grown told told_now (told_in turn)
  pub brings : Grown came came_now (came_in turn)
  pub sends : Grown sent sent_now turn.sent

-- Turns, one after another. Where the clock or the wire failed after them, a moment that was told
-- and a datagram that came may be left over; else nothing is.
pub record GoesThrough (R : Relation) (asked : ℕ) (served : Served) (old new : Device)
    (told told_now : Option (List ℕ)) (came came_now sent sent_now : Option (List Datagram))
    : Type 0 where
  pub turns : List Turn
  pub count : length turns ≡ served.turns
  pub missed_is : sum_by missed_in turns ≡ served.missed
  pub takes : TakesAll R turns old new
  pub late : List ℕ
  pub lost : List Datagram
  pub tells : Grown told told_now (flat_map told_in turns ++ late)
  pub brings : Grown came came_now (flat_map came_in turns ++ lost)
  pub sends : Grown sent sent_now (flat_map sent_in turns)
  pub few : (length late ≤ 1) × (length lost ≤ 1)
  pub whole : served.turns ≡ asked → (late ≡ []) × (lost ≡ [])
