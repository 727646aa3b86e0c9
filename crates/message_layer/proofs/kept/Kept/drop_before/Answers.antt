use Rattle.std.proofs.Common.{sym}
use Rattle.message_layer.proofs.KeptLaws.{kept-since}
use Rattle.message_layer.proofs.kept.Kept.drop_before.Goals as goal

pub returns-clause-items : goal.returns-clause-items
returns-clause-items g c =
    let inside = c.self.inside in
    let left = kept-since g.T.Timed.moment_of inside.since c.args.moment inside.series.items inside.latest in
    rw (c.max-self-inside.ensures, c.latest_since-self-inside.ensures, ← c.self.view_is) (sym left)
