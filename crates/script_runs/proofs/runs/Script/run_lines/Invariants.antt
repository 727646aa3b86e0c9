-- The rules stay.
use Rattle.std.proofs.Common.{◌≡◌}
use Rattle.script_runs.proofs.runs.Script.run_lines.Given as goal

abbrev pub invariant-each : goal.invariant-each
invariant-each g l = l.self.world.rules ≡ l.initial.self.world.rules
