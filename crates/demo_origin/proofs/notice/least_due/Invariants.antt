use Rattle.std.proofs.Common.{◌≡◌, None, drop}
use Rattle.demo_origin.specs.Notifying.{least_due}
use Rattle.demo_origin.proofs.notice.least_due.Given as goal

abbrev pub invariant-each : goal.invariant-each
invariant-each l = least_due l.least (drop l.o-index l.observers) ≡ least_due None l.observers
