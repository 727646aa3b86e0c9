use Rattle.std.proofs.Common.{◌≡◌}
use Rattle.toml.specs.View.{members_view}
use Rattle.proxy_settings.specs.Keys.{has_only}
use Rattle.proxy_settings.proofs.keys.Keys.check.Given as goal

abbrev pub invariant-each : goal.invariant-each
invariant-each l =
    goal.iterator-each.can_next l.key-iterator × goal.iterator-each.is_finite l.key-iterator
    × (has_only l.self (members_view l.key-iterator) ≡ has_only l.self (members_view l.table.entries))
