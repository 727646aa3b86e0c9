-- None of those that were looked at is the peer.
use Rattle.std.specs.Prelude.{◌≡◌, false, take}
use Rattle.std.specs.List.{list_any}
use Rattle.demo_origin.specs.Observing.{is_observer}
use Rattle.demo_origin.proofs.observers.is_observer.Given as goal

abbrev pub invariant-each : goal.invariant-each
invariant-each l = list_any (is_observer l.peer) (take l.o-index l.observers) ≡ false
