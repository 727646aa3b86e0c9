-- The endpoints, each with its link, and what changes one of the links.
use Rattle.std.specs.Prelude.{◌≡◌, ℕ, Bool, false, ◌&&◌, nat_lt, List, [], ◌∷◌, map, Option, Some, None, if◌then◌else◌, ⊤}
use Rattle.std.specs.List.{AllByRecursion}
use Rattle.uri_map.specs.declared.peer.Peer.{Peer}
use Rattle.uri_map.specs.Peers.{same_peer}
use Rattle.message_layer.specs.Values.{LinkState, LinkValue, empty_link}
use Rattle.message_layer.specs.Prepared.{followed, heeded}
use Rattle.message_layer.specs.Sending.{submitted}
use Rattle.message_layer.specs.declared.prepared.Heeding.{Heeding}
use Rattle.message_layer.specs.declared.prepared.Submission.{Submission}
use Rattle.message_layer.specs.declared.state.Waiting.{Waiting}
use Rattle.exchange_model.specs.Calls.{peer_of}
use Rattle.exchange_model.specs.Entering.{awaits_no_more}
use Rattle.exchange_model.specs.Room.{AreApart}
use Rattle.exchange_model.specs.State.{PeerLink, link_of, with_link}
use Rattle.exchange_model.specs.Steps.{given_out}
use Rattle.endpoint_table.specs.declared.endpoint.Endpoint.{Endpoint}

pub record TableValue : Type 0 where
  -- in the order in which they were first asked for something
  pub links : List PeerLink
  -- whether each link has room in memory for what one more call adds, in the same order
  pub rooms : List Bool
  -- whether one endpoint more has, with its link
  pub spare : Bool

-- whether the endpoint's link has room for what one more call adds
abbrev pub room_at : List PeerLink → List Bool → Bool → Peer → Bool
room_at [] rs spare p = spare
room_at (x ∷ xs) [] spare p = spare
room_at (x ∷ xs) (r ∷ rs) spare p = if same_peer x.peer p then r else room_at xs rs spare p

-- the endpoint's link: an empty one before anything was asked of it
abbrev pub link_at : TableValue → Peer → LinkValue
link_at v p = record { state = link_of v.links p; room = room_at v.links v.rooms v.spare p }

-- the links after the endpoint's took the message, awaits nothing more under these tokens, and gave
-- out what it had
abbrev pub submitted_to : Peer → ℕ → Waiting → List (List ℕ) → List PeerLink → List PeerLink
submitted_to p t w gone xs =
    with_link p (given_out (awaits_no_more gone (submitted t w (link_of xs p)))) xs

-- a link after the datagram that was prepared and the message that was prepared after it, if one
-- was, which awaits nothing more under these tokens, and gave out all
abbrev pub heeds : ℕ → Heeding → Option Submission → List (List ℕ) → LinkState → LinkState
heeds t x more gone s = given_out (awaits_no_more gone (followed t more (heeded t x s)))

-- what stands behind a table

abbrev pub peer_link : Endpoint → PeerLink
peer_link x = record { peer = x.peer; link = x.link.state }

abbrev pub has_room : Endpoint → Bool
has_room x = x.link.room

-- where so many endpoints stand in a vector of this capacity, their timers have so many places, and
-- this is the link for one more
abbrev pub spare_room : ℕ → ℕ → ℕ → Option LinkValue → Bool
spare_room len capacity slots None = false
spare_room len capacity slots (Some link) =
    nat_lt len capacity && (nat_lt len slots && link.room)

abbrev pub shown : List Endpoint → Bool → TableValue
shown es spare = record { links = map peer_link es; rooms = map has_room es; spare = spare }

-- Each endpoint has one link.
abbrev pub AreOnce : List Endpoint → Type 0
AreOnce es = AreApart (map peer_of (map peer_link es))

-- Nothing was handed in to a link for one more.
abbrev pub IsUnused : Option LinkValue → Type 0
IsUnused None = ⊤
IsUnused (Some link) = link.state ≡ empty_link

-- Their datagrams were given out.
abbrev pub AreDrained : List PeerLink → Type 0
AreDrained xs = AllByRecursion (λ (x : PeerLink). x.link.out ≡ []) xs
