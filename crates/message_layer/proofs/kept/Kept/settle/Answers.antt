use Rattle.std.proofs.Common.{◌∙◌}
use Rattle.message_layer.proofs.KeptLaws.{kept-zero}
use Rattle.message_layer.proofs.kept.Kept.settle.Goals as goal

pub returns-clause-same : goal.returns-clause-same
returns-clause-same g c =
    rw (← c.self.view_is)
    (kept-zero g.T.Timed.moment_of c.in_ok-self-inside.field-0.items ∙ c.in_ok-self-inside.ensures)
