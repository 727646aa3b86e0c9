-- Which messages a device executes, whatever the network does.
use Rattle.std.specs.Prelude.{◌≡◌, ◌≢◌, ℕ, List, slice_get, Some}
use Rattle.coap_codec.specs.Spelling.{Content, Spells}
use Rattle.uri_map.specs.declared.peer.Peer.{Peer}
use Rattle.journal_book.specs.Entries.{Written}
use Rattle.history_laws.specs.Justified.{Stands}
use Rattle.history_laws.specs.Readings.{Noted}
use Rattle.history_laws.specs.Laws.{IsFirst}
use Rattle.history_claims.specs.Headline.{IsFirstSending}
use Rattle.history_claims.specs.Order.{AreSentFor}
use Rattle.demo_origin.specs.Calls.{Call}
use Rattle.demo_origin.specs.Once.{heard}
use Rattle.demo_origin.specs.Values.{Device, Relation}
use Rattle.demo_origin.specs.declared.execution.Taken.{Taken}
use Rattle.story_laws.specs.Networks.{Networks}

-- In this call the message is executed: it comes from the proxy, and the device tells what it did.
pub record Executes (proxy : Peer) (m : Content) (c : Call) : Type 0 where
  pub moment : ℕ
  pub datagram : List ℕ
  pub taken : Taken
  pub comes : c.event ≡ heard moment proxy datagram (Some taken)
  pub spelled : Spells m datagram

-- A message that the proxy sends is executed at most once, however often it is sent, repeated and
-- delayed (RFC 7252 section 4.5).
abbrev pub MessagesOnce : Relation → Type 0
MessagesOnce R =
    (l : List Noted) (device proxy p : Peer) (s : Device) (cs : List Call)
    (t o i a b : ℕ) (m : Content) (x y : Call)
    → Networks R l device proxy s cs → IsFirst l t o i p m
    → slice_get cs a ≡ Some x → slice_get cs b ≡ Some y
    → Executes proxy m x → Executes proxy m y → a ≡ b

-- Of the messages that a journal's proxy sends for one ask but a GET (method 1), as a table of its
-- sendings has it, one at most is executed, and that once: of a body in pieces the last.
abbrev pub AskedOnce : Relation → Type 0
AskedOnce R =
    (h : List Written) (device proxy : Peer) (start : Device) (cs : List Call) (s : Stands h)
    → Networks R s.reading device proxy start cs → (sent : AreSentFor h)
    → (i j t u : ℕ) (p r : Peer) (m n : Content) (a b : ℕ) (x y : Call)
    → IsFirstSending h i t p m → IsFirstSending h j u r n → m.code ≢ 1 → n.code ≢ 1
    → sent.owner i ≡ sent.owner j → slice_get cs a ≡ Some x → slice_get cs b ≡ Some y
    → Executes proxy m x → Executes proxy n y → a ≡ b
