-- Nothing of the journal was given out.
use Rattle.std.proofs.Common.{ap, ◌∙◌}
use Rattle.three_parties.specs.Scenes.{Scene}
use Rattle.three_parties.proofs.run.play.Goals as goal

pub copy_journal-requires : goal.copy_journal-requires
copy_journal-requires g c =
    c.in_ok-take_all.ensures.given ∙ ap (λ (s : Scene). s.world.core.state.given) c.in_ok-stage.ensures.opens
