use Rattle.message_layer.proofs.KeptLaws.{are-whole, kept-drop}
use Rattle.message_layer.proofs.kept.Kept.drop_first.Goals as goal

pub drop_first-requires : goal.drop_first-requires
drop_first-requires g c =
    let inside = c.self.inside in
    let whole = rw (← c.self.view_is) at c.requires.whole in
    let all = are-whole g.T.Timed.moment_of inside.since inside.series.items inside.latest whole in
    rw (← c.self.view_is, all.all) at c.requires.some

pub returns-clause-items : goal.returns-clause-items
returns-clause-items g c =
    let inside = c.self.inside in
    let whole = rw (← c.self.view_is) at c.requires.whole in
    rw (c.drop_first.ensures.items, ← c.self.view_is)
    (kept-drop g.T.Timed.moment_of inside.since inside.series.items inside.latest whole)
