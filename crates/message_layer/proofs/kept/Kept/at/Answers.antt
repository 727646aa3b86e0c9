use Rattle.message_layer.proofs.KeptLaws.{are-whole}
use Rattle.message_layer.proofs.kept.Kept.at.Goals as goal

pub at-requires : goal.at-requires
at-requires g c =
    let inside = c.self.inside in
    let whole = rw (← c.self.view_is) at c.requires.whole in
    let all = are-whole g.T.Timed.moment_of inside.since inside.series.items inside.latest whole in
    rw (← c.self.view_is, all.all) at c.requires.within

pub returns : goal.returns
returns g c =
    let inside = c.self.inside in
    let whole = rw (← c.self.view_is) at c.requires.whole in
    let all = are-whole g.T.Timed.moment_of inside.since inside.series.items inside.latest whole in
    rw (← c.self.view_is, all.all) c.at.ensures
