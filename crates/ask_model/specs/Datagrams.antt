-- What is sent for a request, and to whom (RFC 7252 sections 3 and 5.2).
use Rattle.std.specs.Prelude.{◌≡◌, ◌≢◌, ℕ, ◌≤◌, true, List, [], length, Option, Some, None}
use Rattle.limits.specs.declared.TheConstants.{MAX_BODY_LEN}
use Rattle.coap_codec.specs.Spelling.{Spells}
use Rattle.uri_map.specs.declared.peer.Peer.{Peer}
use Rattle.uri_map.specs.Limits.{uri_options, fits}
use Rattle.coap_codec.specs.declared.block.Block.{Block}
use Rattle.ask_model.specs.Requests.{CoapRequest, Sense, Requests, Refuses, block_message, first_block}

-- A request is sent as its message under this message ID and token, which may be for one block; and
-- for a refusal nothing is sent.
abbrev pub IsSentFor : Sense → Option Block → ℕ → List ℕ → Option (List ℕ) → Type 0
IsSentFor (Requests q) block mid token None = ⊥
IsSentFor (Requests q) block mid token (Some bytes) = Spells (block_message q block mid token) bytes
IsSentFor (Refuses cause status) block mid token sent = sent ≡ None

-- the block that a message is for: the one that is named, or else the first of a body that goes in
-- several
abbrev pub block_or_first : CoapRequest → Option Block → Option Block
block_or_first q None = first_block q
block_or_first q (Some b) = Some b

abbrev pub block_named : Sense → Option Block → Option Block
block_named (Requests q) block = block_or_first q block
block_named (Refuses cause status) block = block

-- the server that is asked, if one is
abbrev pub asked_peer : Sense → Option Peer
asked_peer (Requests q) = Some q.peer
asked_peer (Refuses cause status) = None

-- what it has as a body
abbrev pub asked_body : Sense → List ℕ
asked_body (Requests q) = q.body
asked_body (Refuses cause status) = []

-- The request can be sent: it has a request's code, the options of its target keep their limits,
-- and so does its body, which may go in several messages; a GET has none (RFC 7252 section 5.8.1).
pub record FitsMessages (q : CoapRequest) : Type 0 where
  pub code : q.method ≢ 0
  pub target : fits (uri_options q.target) ≡ true
  pub body : length q.body ≤ MAX_BODY_LEN
  pub get : q.method ≡ 1 → q.body ≡ []

abbrev pub IsSendable : Sense → Type 0
IsSendable (Requests q) = FitsMessages q
IsSendable (Refuses cause status) = Unit {0}
