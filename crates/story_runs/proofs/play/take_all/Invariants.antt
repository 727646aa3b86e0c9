-- The steps so far were taken.
use Rattle.std.proofs.Common.{◌≡◌, take}
use Rattle.demo_origin.specs.Origins.{Sound}
use Rattle.story_runs.specs.Steps.{TakesSteps}
use Rattle.three_parties.specs.Stories.{scene}
use Rattle.story_runs.proofs.play.take_all.Given as goal

abbrev pub invariant-each : goal.invariant-each
invariant-each g l = record {
  taken : TakesSteps g.R.Relation.holds g.R.Relation.takes g.H.Behaviour.relation (take l.step-index l.steps)
      (scene l.initial.stage) (scene l.stage);
  rules : l.stage.world.rules ≡ l.initial.stage.world.rules;
  sound : Sound g.H.Behaviour.relation l.stage.origin;
}
