use Rattle.std.proofs.Common.{sym, ◌++◌}
use Rattle.std.proofs.lemmas.List.{drop-drop}
use Rattle.message_layer.proofs.series.Series.drop_first.Goals as goal

pub returns-clause-items : goal.returns-clause-items
returns-clause-items g c =
    let inside = c.self.inside in
    rw (← c.self.view_is) (sym (drop-drop 1 inside.gone (inside.earlier ++ inside.last.items)))
