use Rattle.std.proofs.Common.{◌≤◌, length}
use Rattle.proxy_settings.proofs.place.line_of.Given as goal

abbrev pub invariant-each : goal.invariant-each
invariant-each l = l.search.best ≤ length l.ends.items
