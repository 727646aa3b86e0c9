-- None of those that were looked at was sent so.
use Rattle.std.specs.Prelude.{◌≡◌, false, take}
use Rattle.std.specs.List.{list_any}
use Rattle.demo_origin.specs.Observing.{is_sent_as}
use Rattle.demo_origin.proofs.observers.has_sent.Given as goal

abbrev pub invariant-each : goal.invariant-each
invariant-each l = list_any (is_sent_as l.peer l.mid) (take l.o-index l.observers) ≡ false
