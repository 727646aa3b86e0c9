use Rattle.std.proofs.Common.{sym, ◌∙◌}
use Rattle.message_layer.proofs.KeptLaws.{are-whole, count-all}
use Rattle.message_layer.proofs.kept.Kept.len.Goals as goal

pub returns-then-is_whole-clause-all : goal.returns-then-is_whole-clause-all
returns-then-is_whole-clause-all g c =
    let inside = c.self.inside in
    let whole = rw (← c.self.view_is) at (sym c.is_whole.ensures ∙ c.if-is_whole.true) in
    let all = are-whole g.T.Timed.moment_of inside.since inside.series.items inside.latest whole in
    rw (← c.self.view_is, all.all) c.len.ensures.all

pub returns-clause-all : goal.returns-clause-all
returns-clause-all g c = c.count_since.ensures.all ∙ count-all g.T.Timed.moment_of c.args.self.now.items
