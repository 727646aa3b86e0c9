use Rattle.std.proofs.Common.{◌≡◌, ◌++◌, map, take}
use Rattle.command_line.specs.Rules.{forms_of}
use Rattle.command_line.proofs.settings.add_routes.Given as goal

abbrev pub invariant-each : goal.invariant-each
invariant-each l = l.routes ≡ l.fn.routes ++ map forms_of (take l.route-index l.more)
