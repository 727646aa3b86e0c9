-- None of those that were looked at is it.
use Rattle.std.proofs.Common.{◌≡◌, drop, filter}
use Rattle.std.specs.List.{find}
use Rattle.message_layer.specs.Kept.{is_since}
use Rattle.message_layer.specs.Remembering.{is_repeat, moment_heard}
use Rattle.message_layer.proofs.remembered.find_since.Given as goal

abbrev pub invariant-each : goal.invariant-each
invariant-each l =
    find (is_repeat l.moment l.mid) (filter (is_since moment_heard l.since) l.series.items)
    ≡ find (is_repeat l.moment l.mid) (filter (is_since moment_heard l.since) (drop l.i l.series.items))
