-- None of those that were looked at is the peer.
use Rattle.std.specs.Prelude.{◌≡◌, drop}
use Rattle.std.specs.List.{find}
use Rattle.demo_origin.specs.Peers.{is_client}
use Rattle.demo_origin.proofs.answer.client_of.Given as goal

abbrev pub invariant-each : goal.invariant-each
invariant-each l =
    find (is_client l.peer) l.clients ≡ find (is_client l.peer) (drop l.c-index l.clients)
