-- The rules stay.
use Rattle.std.proofs.Common.{◌≡◌}
use Rattle.ask_model.specs.Views.{rules_of}
use Rattle.trials_command.proofs.refused_tests.print_lines.Given as goal

abbrev pub invariant-each : goal.invariant-each
invariant-each g l = l.world.rules ≡ rules_of l.fn.settings
