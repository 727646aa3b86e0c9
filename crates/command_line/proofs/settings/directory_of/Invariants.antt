use Rattle.std.proofs.Common.{◌≡◌, map, take}
use Rattle.command_line.specs.Rules.{line_of}
use Rattle.command_line.proofs.settings.directory_of.Given as goal

abbrev pub invariant-each : goal.invariant-each
invariant-each l =
    (l.directory.lines ≡ map line_of (take l.origin-index l.origins)) × (l.directory.literals ≡ l.literals)
