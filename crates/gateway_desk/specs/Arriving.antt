-- A datagram that came in and lies at the front of a buffer.
use Rattle.std.specs.Prelude.{ℕ}
use Rattle.uri_map.specs.declared.peer.Peer.{Peer}

-- who sent it, and how many bytes it has
pub record Arrival : Type 0 where
  pub peer : Peer
  pub count : ℕ
