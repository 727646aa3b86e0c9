-- When the messages of a proxy reach a device, and how long that remembers them (RFC 7252 sections
-- 4.4, 4.5 and 4.8.2).
use Rattle.std.specs.Prelude.{◌≡◌, ℕ, ◌+◌, ◌<◌, ◌≤◌, List, slice_get, Option, Some}
use Rattle.limits.specs.declared.TheConstants.{EXCHANGE_LIFETIME}
use Rattle.coap_codec.specs.Spelling.{Content, Spells}
use Rattle.uri_map.specs.declared.peer.Peer.{Peer}
use Rattle.history_laws.specs.Readings.{Noted}
use Rattle.history_laws.specs.Laws.{IsFirst}
use Rattle.demo_origin.specs.Calls.{Call}
use Rattle.demo_origin.specs.Once.{heard}
use Rattle.demo_origin.specs.Values.{Device, Relation}
use Rattle.demo_origin.specs.declared.execution.Taken.{Taken}
use Rattle.story_laws.specs.Networks.{Networks}
use Rattle.story_laws.specs.declared.TheConstants.{LONGEST_SENDING, LONGEST_WAY}

-- In one of these calls the device hears the message from the proxy, at this moment.
pub record HearsMessage (proxy : Peer) (m : Content) (cs : List Call) (u : ℕ) : Type 0 where
  pub place : ℕ
  pub call : Call
  pub stands : slice_get cs place ≡ Some call
  pub datagram : List ℕ
  pub taken : Option Taken
  pub comes : call.event ≡ heard u proxy datagram taken
  pub spelled : Spells m datagram

-- It does so after the first sending of the message, and within 149 seconds of that.
abbrev pub ArrivesWithin : Relation → Type 0
ArrivesWithin R =
    (l : List Noted) (device proxy p : Peer) (s : Device) (cs : List Call) (t o i u : ℕ)
    (m : Content)
    → Networks R l device proxy s cs → IsFirst l t o i p m → HearsMessage proxy m cs u
    → (t ≤ u) × (u ≤ t + LONGEST_SENDING + LONGEST_WAY)

-- Another message has its ID only after the device has forgotten it, 247 seconds after it was heard
-- last.
abbrev pub ForgottenBefore : Relation → Type 0
ForgottenBefore R =
    (l : List Noted) (device proxy p : Peer) (s : Device) (cs : List Call)
    (t v o k i j u : ℕ) (m n : Content)
    → Networks R l device proxy s cs → IsFirst l t o i p m → IsFirst l v k j p n → i < j
    → m.mid ≡ n.mid → HearsMessage proxy m cs u → u + EXCHANGE_LIFETIME < v
