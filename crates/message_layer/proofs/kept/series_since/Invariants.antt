use Rattle.std.proofs.Common.{◌≡◌, filter, take}
use Rattle.message_layer.specs.Kept.{is_since}
use Rattle.message_layer.proofs.kept.series_since.Given as goal

abbrev pub invariant-each : goal.invariant-each
invariant-each g l =
    l.items.items ≡ filter (is_since g.T.Timed.moment_of l.since) (take l.i l.series.items)
