-- Where an endpoint stands in a list of links.
use Rattle.std.specs.Prelude.{◌≡◌, ℕ, true, false, List, [], ◌∷◌, zero, suc, ⊤}
use Rattle.uri_map.specs.declared.peer.Peer.{Peer}
use Rattle.uri_map.specs.Peers.{same_peer}
use Rattle.exchange_model.specs.State.{PeerLink}

-- The endpoint is none of these.
abbrev pub HasNone : Peer → List PeerLink → Type 0
HasNone p [] = ⊤
HasNone p (x ∷ xs) = (same_peer x.peer p ≡ false) × HasNone p xs

-- The endpoint is the one in this place, and none before it.
abbrev pub IsFirstAt : Peer → List PeerLink → ℕ → Type 0
IsFirstAt p [] i = ⊥
IsFirstAt p (x ∷ xs) zero = same_peer x.peer p ≡ true
IsFirstAt p (x ∷ xs) (suc i) = (same_peer x.peer p ≡ false) × IsFirstAt p xs i
