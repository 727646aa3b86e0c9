-- What an answer of success to a POST means for the device, whatever the network does.
use Rattle.std.specs.Prelude.{◌≡◌, ℕ, ◌/◌, ◌≤◌, List, [], ◌∷◌, ◌++◌, slice_get, Option, Some}
use Rattle.coap_codec.specs.Spelling.{Content}
use Rattle.coap_codec.specs.declared.block.Block.{Block}
use Rattle.uri_map.specs.declared.peer.Peer.{Peer}
use Rattle.ask_model.specs.Requests.{CoapRequest}
use Rattle.journal_book.specs.Entries.{Live, Answers, Written}
use Rattle.history_laws.specs.Justified.{Stands}
use Rattle.history_claims.specs.Headline.{IsEntry, IsHeardFor, RestsOn}
use Rattle.demo_origin.specs.Calls.{Call}
use Rattle.demo_origin.specs.Origins.{fresh}
use Rattle.demo_origin.specs.Values.{Relation}
use Rattle.demo_origin.specs.declared.state.Held.{Held}
use Rattle.story_laws.specs.Executions.{Executes}
use Rattle.story_laws.specs.Networks.{Networks, AreGiven}

-- For the request q, asked in the entry k, a message was sent: it, or a piece of its body. The last
-- of these entries heard the reply to it. The device executed this message, and just once.
pub record IsDoneOnce (h : List Written) (k : ℕ) (q : CoapRequest) (js : List ℕ) (proxy : Peer)
    (cs : List Call) : Type 0 where
  pub since : ℕ
  pub not_before : k ≤ since
  pub block : Option Block
  pub earlier : List ℕ
  pub last : ℕ
  pub are : js ≡ earlier ++ last ∷ []
  pub message : Content
  pub reply : IsHeardFor h since q block last message
  pub place : ℕ
  pub call : Call
  pub stands : slice_get cs place ≡ Some call
  pub executes : Executes proxy reply.sent call
  pub once : (b : ℕ) (y : Call) → slice_get cs b ≡ Some y → Executes proxy reply.sent y → b ≡ place

-- A POST (method 2) that was answered by success was executed exactly once, by the message to which
-- the last reply came. Of a body in pieces a device executes the last alone (LastPieceExecutes).
abbrev pub PostsOnce : Relation → Type 0
PostsOnce R =
    (h : List Written) (device proxy : Peer) (block : ℕ) (resources : List Held) (cs : List Call)
    (n t c k : ℕ) (js : List ℕ) (s : Stands h)
    → Networks R s.reading device proxy (fresh block resources) cs
    → AreGiven s.reading device proxy (fresh block resources) cs
    → IsEntry h n t (Answers c k (Live js)) → (r : RestsOn h n c k js)
    → r.request.method ≡ 2 → r.request.peer ≡ device → r.response.code / 32 ≡ 2
    → IsDoneOnce h r.opening r.request js proxy cs
