-- What a reply to a GET, or a notification, shows of the device, whatever the network does.
use Rattle.std.specs.Prelude.{◌≡◌, ℕ, ◌<◌, ◌≤◌, List, [], ◌∷◌, take, Option, ⊤}
use Rattle.std.specs.List.{AllByRecursion, Contains}
use Rattle.coap_codec.specs.Spelling.{Content}
use Rattle.coap_codec.specs.Values.{values}
use Rattle.coap_codec.specs.declared.block.Block.{Block}
use Rattle.uri_map.specs.declared.peer.Peer.{Peer}
use Rattle.ask_model.specs.Requests.{CoapRequest}
use Rattle.journal_book.specs.Entries.{Written}
use Rattle.history_laws.specs.Justified.{Stands}
use Rattle.history_claims.specs.Headline.{IsResponse, IsSentFor}
use Rattle.demo_origin.specs.Calls.{Call, left_by}
use Rattle.demo_origin.specs.Done.{left_with, told_in}
use Rattle.demo_origin.specs.Origins.{fresh}
use Rattle.demo_origin.specs.Requests.{IsAt}
use Rattle.demo_origin.specs.Values.{Device, Relation}
use Rattle.demo_origin.specs.declared.state.Held.{Held}
use Rattle.story_laws.specs.Arriving.{HearsMessage}
use Rattle.story_laws.specs.Networks.{Networks, IsGiven}

-- Under the token of a message that was sent for q after the entry k, the entry j heard this
-- response: the reply to it, or a notification of what it asked to be told of (RFC 7641 section
-- 4.2).
pub record IsToldFor (h : List Written) (k : ℕ) (q : CoapRequest) (j : ℕ) (m : Content) : Type 0
  where
    pub block : Option Block
    pub sending : ℕ
    pub sent : Content
    pub sent_for : IsSentFor h k q block sending sent
    pub response : IsResponse h q.peer sending sent j m

-- This is the state that the resource of the message's path held when the device heard the message,
-- in one of its first so many calls, at this moment at the earliest; or between later ones of these,
-- or after all of them: before this call, what the executions before left it with.
pub record ShowsHeld (since count : ℕ) (proxy : Peer) (s : Device) (cs : List Call) (m : Content)
    (state : List ℕ) : Type 0 where
  pub moment : ℕ
  pub asked : HearsMessage proxy m cs moment
  pub not_before : since ≤ moment
  pub heard : asked.place < count
  pub place : ℕ
  pub later : asked.place ≤ place
  pub not_after : place ≤ count
  pub number : ℕ
  pub held : Held
  pub there : IsAt (values 11 m.options) (left_by s (take place cs)).resources number held
  pub shown : state ≡ held.state
  pub left : (i : ℕ) (first : Held) → IsAt (values 11 m.options) s.resources i first
      → state ≡ left_with (values 11 m.options) first.state (told_in (take place cs))

-- What was so heard for a GET (method 1), a 2.05 in one piece which names no block, shows such a
-- state: of that moment or later in which the message was first sent, and of before the device had
-- given it out.
abbrev pub RepliesShow : Relation → Type 0
RepliesShow R =
    (h : List Written) (device proxy : Peer) (block : ℕ) (resources : List Held) (cs : List Call)
    (k : ℕ) (q : CoapRequest) (j : ℕ) (m : Content) (s : Stands h)
    → Networks R s.reading device proxy (fresh block resources) cs
    → (x : IsToldFor h k q j m)
    → (g : IsGiven (fresh block resources) cs proxy x.response.heard.bytes) → q.method ≡ 1
    → m.code ≡ 69 → values 23 m.options ≡ []
    → ShowsHeld x.sent_for.moment g.count proxy (fresh block resources) cs x.sent m.payload

-- ---- a state that comes in several pieces (RFC 7959)

-- The resources are those of a new device: nothing changed them.
abbrev pub AreNew : List Held → Type 0
AreNew resources = AllByRecursion (λ (h : Held). h.version ≡ 0) resources

-- These entries heard these messages so.
abbrev pub AreToldFor : List Written → ℕ → CoapRequest → List ℕ → List Content → Type 0
AreToldFor h k q [] [] = ⊤
AreToldFor h k q (j ∷ js) (m ∷ ms) = IsToldFor h k q j m × AreToldFor h k q js ms
AreToldFor h k q _ _ = ⊥

-- The resource held this state when the device heard a message that was sent for q after the entry
-- k, or later, and before one of these entries. Of each entry it is told how many calls there were
-- before it.
pub record ShowsWhole (h : List Written) (k : ℕ) (q : CoapRequest) (js : List ℕ) (proxy : Peer)
    (s : Device) (cs : List Call) (calls_before : ℕ → ℕ) (state : List ℕ) : Type 0 where
  pub block : Option Block
  pub sending : ℕ
  pub message : Content
  pub sent : IsSentFor h k q block sending message
  pub entry : ℕ
  pub among : Contains js entry
  pub shown : ShowsHeld sent.moment (calls_before entry) proxy s cs message state
