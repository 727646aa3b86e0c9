-- What a reply to a GET, or a notification, shows of writes that were answered before it was asked
-- for, whatever the network does.
use Rattle.std.specs.Prelude.{◌≡◌, ◌≢◌, ◌⊎◌, ℕ, ◌/◌, ◌<◌, ◌≤◌, List, [], slice_get, Option, Some}
use Rattle.coap_codec.specs.Spelling.{Content}
use Rattle.coap_codec.specs.Values.{values}
use Rattle.uri_map.specs.declared.peer.Peer.{Peer}
use Rattle.ask_model.specs.Requests.{CoapRequest}
use Rattle.journal_book.specs.Entries.{Hears, Live, Answers, Written}
use Rattle.history_laws.specs.Justified.{Stands}
use Rattle.history_laws.specs.Readings.{Noted, Note, noted, at}
use Rattle.history_laws.specs.Responses.{Response, whole_of}
use Rattle.history_claims.specs.Headline.{IsEntry, RestsOn}
use Rattle.demo_origin.specs.Calls.{Call}
use Rattle.demo_origin.specs.Once.{heard}
use Rattle.demo_origin.specs.Origins.{fresh}
use Rattle.demo_origin.specs.Values.{Device, Relation}
use Rattle.demo_origin.specs.declared.execution.Taken.{Taken}
use Rattle.demo_origin.specs.declared.state.Held.{Held}
use Rattle.story_laws.specs.Networks.{IsDelivered, IsForeign, IsGiven, Networks}
use Rattle.story_laws.specs.Posts.{IsDoneOnce}
use Rattle.story_laws.specs.Reads.{AreNew, AreToldFor, IsToldFor, ShowsHeld, ShowsWhole}

-- In which order the proxy's entries were made and the device was called: of each entry it is told
-- how many calls there were before it, and never fewer than before an older one. What the device
-- hears was sent before, and what the proxy hears was given out before.
pub record IsOrdered (l : List Noted) (device proxy : Peer) (s : Device) (cs : List Call)
    (calls_before : ℕ → ℕ) : Type 0 where
  pub rises : (i j : ℕ) → i ≤ j → calls_before i ≤ calls_before j
  pub brought : (a t : ℕ) (datagram : List ℕ) (taken : Option Taken) (c : Call)
      → slice_get cs a ≡ Some c → c.event ≡ heard t proxy datagram taken
      → ((d : IsDelivered l device t datagram) × (calls_before d.number ≤ a))
      ⊎ IsForeign l datagram
  pub given : (n t : ℕ) (bytes : List ℕ) (note : Note)
      → at l n ≡ Some (noted t (Hears device bytes) note)
      → (g : IsGiven s cs proxy bytes) × (g.count ≤ calls_before n)

-- Each request but a GET (method 1) that was answered by success, by the entry k at the latest, was
-- executed exactly once, and before this call.
abbrev pub AreDoneBefore : List Written → Peer → Peer → List Call → ℕ → ℕ → Type 0
AreDoneBefore h device proxy cs k place =
    (n t c o : ℕ) (js : List ℕ) → IsEntry h n t (Answers c o (Live js)) → (r : RestsOn h n c o js)
    → r.request.method ≢ 1 → r.request.peer ≡ device → r.response.code / 32 ≡ 2 → n ≤ k
    → (done : IsDoneOnce h r.opening r.request js proxy cs) × (done.place < place)

-- What was heard for a GET under the token of a message that was sent after the entry k, a 2.05 in
-- one piece which names no block, shows what the resource held after all these, and before it was
-- heard.
abbrev pub WritesShow : Relation → Type 0
WritesShow R =
    (h : List Written) (device proxy : Peer) (block : ℕ) (resources : List Held) (cs : List Call)
    (calls_before : ℕ → ℕ)
    (k : ℕ) (q : CoapRequest) (j : ℕ) (m : Content) (s : Stands h)
    → Networks R s.reading device proxy (fresh block resources) cs
    → IsOrdered s.reading device proxy (fresh block resources) cs calls_before
    → (x : IsToldFor h k q j m) → q.method ≡ 1 → q.peer ≡ device
    → m.code ≡ 69 → values 23 m.options ≡ []
    → (shown : ShowsHeld x.sent_for.moment (calls_before j) proxy (fresh block resources) cs x.sent
    m.payload)
    × AreDoneBefore h device proxy cs k shown.place

-- What was so heard and is one whole 2.05, in one piece or in several, shows one state that the
-- resource of a new device held, after all these, and before one of the pieces was heard.
abbrev pub WholesShow : Relation → Type 0
WholesShow R =
    (h : List Written) (device proxy : Peer) (block : ℕ) (resources : List Held) (cs : List Call)
    (calls_before : ℕ → ℕ)
    (k : ℕ) (q : CoapRequest) (js : List ℕ) (ms : List Content) (w : Response) (s : Stands h)
    → Networks R s.reading device proxy (fresh block resources) cs
    → IsOrdered s.reading device proxy (fresh block resources) cs calls_before → AreNew resources
    → AreToldFor h k q js ms → whole_of q ms ≡ Some w → q.method ≡ 1
    → q.peer ≡ device → w.code ≡ 69
    → (shown : ShowsWhole h k q js proxy (fresh block resources) cs calls_before w.body)
    × AreDoneBefore h device proxy cs k shown.shown.place
