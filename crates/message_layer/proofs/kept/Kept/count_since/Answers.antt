use Rattle.std.proofs.Common.{sym}
use Rattle.message_layer.proofs.KeptLaws.{count-kept}
use Rattle.message_layer.proofs.kept.Kept.count_since.Goals as goal

pub returns-clause-all : goal.returns-clause-all
returns-clause-all g c =
    let inside = c.self.inside in
    let parts = count-kept g.T.Timed.moment_of inside.since c.args.moment inside.series.items inside.latest in
    rw (c.count_since.ensures.all, c.count_latest.ensures.all, c.max.ensures, ← c.self.view_is) (sym parts)
