-- Some of the endpoints are kept, and the others go.
use Rattle.std.specs.Prelude.{Bool, ◌||◌, List, [], ◌∷◌, if◌then◌else◌}
use Rattle.std.specs.List.{list_any}
use Rattle.uri_map.specs.declared.peer.Peer.{Peer}
use Rattle.uri_map.specs.Peers.{same_peer}
use Rattle.exchange_model.specs.State.{PeerLink}

-- the endpoint is one of these
abbrev pub is_any : List Peer → PeerLink → Bool
is_any ps x = list_any (λ (p : Peer). same_peer p x.peer) ps

-- marks of endpoints, once this one is marked too, where it is one of them
abbrev pub with_mark : Peer → List PeerLink → List Bool → List Bool
with_mark p [] ms = ms
with_mark p (x ∷ xs) [] = []
with_mark p (x ∷ xs) (m ∷ ms) = (m || same_peer p x.peer) ∷ with_mark p xs ms

-- what is marked, in order
abbrev pub marked : {X : Type 0} → List Bool → List X → List X
marked [] xs = []
marked (m ∷ ms) [] = []
marked (m ∷ ms) (x ∷ xs) = if m then x ∷ marked ms xs else marked ms xs
