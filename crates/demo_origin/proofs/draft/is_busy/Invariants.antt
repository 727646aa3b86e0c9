-- None of those that were looked at waits for the peer.
use Rattle.std.specs.Prelude.{◌≡◌, false, take}
use Rattle.std.specs.List.{list_any}
use Rattle.demo_origin.specs.Notifying.{is_waited_for}
use Rattle.demo_origin.proofs.draft.is_busy.Given as goal

abbrev pub invariant-each : goal.invariant-each
invariant-each l = list_any (is_waited_for l.peer) (take l.o-index l.observers) ≡ false
