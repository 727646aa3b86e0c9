-- The turns so far were taken.
use Rattle.std.proofs.Common.{◌≡◌, take}
use Rattle.demo_origin.specs.Origins.{Sound}
use Rattle.three_parties.specs.Scenes.{TakesTurns}
use Rattle.three_parties.specs.Stories.{scene}
use Rattle.three_parties.proofs.stage.Stage.take_all.Given as goal

abbrev pub invariant-each : goal.invariant-each
invariant-each g l = record {
  taken : TakesTurns g.R.Relation.holds g.R.Relation.takes g.H.Behaviour.relation (take l.turn-index l.turns)
      (scene l.initial.self) (scene l.self);
  rules : l.self.world.rules ≡ l.initial.self.world.rules;
  given : l.self.world.core.state.given ≡ l.initial.self.world.core.state.given;
  sound : Sound g.H.Behaviour.relation l.self.origin;
}
