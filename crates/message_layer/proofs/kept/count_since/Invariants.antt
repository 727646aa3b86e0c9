use Rattle.std.proofs.Common.{◌≡◌, count_by, take}
use Rattle.message_layer.specs.Kept.{is_since}
use Rattle.message_layer.proofs.kept.count_since.Given as goal

abbrev pub invariant-each : goal.invariant-each
invariant-each g l = l.count ≡ count_by (is_since g.T.Timed.moment_of l.since) (take l.i l.series.items)
