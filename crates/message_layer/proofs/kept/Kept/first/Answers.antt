use Rattle.message_layer.proofs.KeptLaws.{are-whole}
use Rattle.message_layer.proofs.kept.Kept.first.Goals as goal

pub returns : goal.returns
returns g c =
    let inside = c.self.inside in
    let whole = rw (← c.self.view_is) at c.requires in
    let all = are-whole g.T.Timed.moment_of inside.since inside.series.items inside.latest whole in
    rw (← c.self.view_is, all.all) c.first.ensures
