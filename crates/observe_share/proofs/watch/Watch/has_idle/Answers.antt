use Rattle.std.proofs.Common.{◌∙◌}
use Rattle.observe_share.proofs.Due.{any_idle, first_by, since}
use Rattle.observe_share.proofs.watch.Watch.has_idle.Goals as goal

pub returns-in-Some : goal.returns-in-Some
returns-in-Some c =
    rw (← c.self.view_is, c.saturating_sub.ensures) (since c.args.moment c.in-Some.first
    ∙ any_idle c.self.inside.standing.items c.in-Some.first c.args.moment (first_by c.self.inside.standing.items c.self.inside.first c.in-Some.first c.self.invariant.least c.in-Some.is))
