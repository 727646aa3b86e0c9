-- A network between a proxy and a device, which loses, repeats and delays what they send.
use Rattle.std.specs.Prelude.{◌≡◌, ◌≢◌, ◌⊎◌, ℕ, ◌+◌, ◌≤◌, List, [], ◌∷◌, take, slice_get, Option, Some, Ok, ⊤}
use Rattle.std.specs.List.{AllByRecursion, Contains}
use Rattle.coap_codec.specs.Reading.{message_at}
use Rattle.coap_codec.specs.Spelling.{Content}
use Rattle.uri_map.specs.declared.peer.Peer.{Peer}
use Rattle.journal_book.specs.Entries.{Sends, Hears}
use Rattle.history_laws.specs.Readings.{Noted, Note, noted, at}
use Rattle.history_laws.specs.Justified.{Legal}
use Rattle.history_laws.specs.Laws.{IsFirst}
use Rattle.demo_origin.specs.Calls.{Call, Follow, left_by}
use Rattle.demo_origin.specs.Once.{Event, heard, looked, gave}
use Rattle.demo_origin.specs.Origins.{fresh}
use Rattle.demo_origin.specs.Values.{Device, Relation}
use Rattle.demo_origin.specs.declared.execution.Taken.{Taken}
use Rattle.demo_origin.specs.declared.state.Datagram.{Datagram}
use Rattle.demo_origin.specs.declared.state.Held.{Held}
use Rattle.story_laws.specs.Lateness.{ArePunctual}
use Rattle.story_laws.specs.declared.TheConstants.{LONGEST_WAY}

-- The proxy sent this datagram to the device, at most 100 seconds before (MAX_LATENCY, RFC 7252
-- section 4.8.2).
pub record IsDelivered (l : List Noted) (device : Peer) (t : ℕ) (datagram : List ℕ) : Type 0 where
  pub number : ℕ
  pub moment : ℕ
  pub timeout : Option ℕ
  pub note : Note
  pub stands : at l number ≡ Some (noted moment (Sends device datagram timeout) note)
  pub after : moment ≤ t
  pub within : t ≤ moment + LONGEST_WAY

-- Or it was sent by the proxy before this history began, or after it ended: under the token of no
-- message that this history first sent.
abbrev pub IsForeign : List Noted → List ℕ → Type 0
IsForeign l datagram =
    (t o i : ℕ) (p : Peer) (m n : Content)
    → IsFirst l t o i p m → message_at datagram ≡ Ok n → n.token ≢ m.token

-- So it is of all that the device hears from it.
abbrev pub IsBrought : List Noted → Peer → Peer → Event → Type 0
IsBrought l device proxy (heard t p datagram taken) =
    p ≡ proxy → IsDelivered l device t datagram ⊎ IsForeign l datagram
IsBrought l device proxy e = ⊤

-- the moment after a call
abbrev pub moment_after : ℕ → Event → ℕ
moment_after s (heard t p datagram taken) = t
moment_after s (looked t) = t
moment_after s gave = s

-- Time doesn't go back.
abbrev pub AreTimed : ℕ → List Call → Type 0
AreTimed s [] = ⊤
AreTimed s (c ∷ cs) = (s ≤ moment_after s c.event) × AreTimed (moment_after s c.event) cs

-- The proxy's history is legal and its copies are punctual; the device's calls follow from one
-- another, and what it hears from the proxy is what that sent, in this history or in another one.
pub record Networks (R : Relation) (l : List Noted) (device proxy : Peer) (s : Device)
    (cs : List Call) : Type 0 where
  pub legal : Legal l
  pub punctual : ArePunctual l
  pub follow : Follow R s cs
  pub timed : AreTimed 0 cs
  pub brought : AllByRecursion (λ (c : Call). IsBrought l device proxy c.event) cs

-- The device gave out this datagram for the proxy, by one of these calls.
pub record IsGiven (s : Device) (cs : List Call) (proxy : Peer) (bytes : List ℕ) : Type 0 where
  pub count : ℕ
  pub datagram : Datagram
  pub given : Contains (left_by s (take count cs)).out datagram
  pub to : datagram.peer ≡ proxy
  pub has : datagram.bytes ≡ bytes

-- So was all that the proxy heard from it.
abbrev pub AreGiven : List Noted → Peer → Peer → Device → List Call → Type 0
AreGiven l device proxy s cs =
    (n t : ℕ) (bytes : List ℕ) (note : Note) → at l n ≡ Some (noted t (Hears device bytes) note)
    → IsGiven s cs proxy bytes
