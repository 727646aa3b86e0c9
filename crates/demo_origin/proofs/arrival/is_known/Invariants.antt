-- None of those that were looked at is the peer.
use Rattle.std.specs.Prelude.{◌≡◌, false, take}
use Rattle.std.specs.List.{list_any}
use Rattle.demo_origin.specs.Peers.{is_client}
use Rattle.demo_origin.proofs.arrival.is_known.Given as goal

abbrev pub invariant-each : goal.invariant-each
invariant-each l = list_any (is_client l.peer) (take l.c-index l.clients) ≡ false
