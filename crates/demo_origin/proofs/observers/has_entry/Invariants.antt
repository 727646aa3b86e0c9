-- None of those that were looked at is the entry.
use Rattle.std.specs.Prelude.{◌≡◌, false, take}
use Rattle.std.specs.List.{list_any}
use Rattle.demo_origin.specs.Observing.{is_entry}
use Rattle.demo_origin.proofs.observers.has_entry.Given as goal

abbrev pub invariant-each : goal.invariant-each
invariant-each l = list_any (is_entry l.peer l.place l.token) (take l.o-index l.observers) ≡ false
