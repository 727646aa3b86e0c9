use Rattle.std.proofs.Common.{◌≡◌, take}
use Rattle.command_line.specs.Rules.{observed_hosts}
use Rattle.command_line.proofs.settings.observed_of.Given as goal

abbrev pub invariant-each : goal.invariant-each
invariant-each l = l.observed ≡ observed_hosts (take l.origin-index l.origins)
