-- So far the first answers were told.
use Rattle.std.proofs.Common.{◌≤◌, length}
use Rattle.std.specs.Prelude.{vec_capacity}
use Rattle.gateway_world.specs.Engines.{terms_in}
use Rattle.gateway_world.proofs.Answering.{Answered}
use Rattle.gateway_world.proofs.engine.Engine.answer_all.Given as goal

abbrev pub invariant-each : goal.invariant-each
invariant-each g l = record {
  answered : Answered (terms_in g.R.Relation.holds g.R.Relation.takes l.context) l.context.when
      l.initial.self l.initial.outputs.items l.self l.outputs.items;
  places : vec_capacity l.initial.outputs ≤ vec_capacity l.outputs;
}

abbrev pub decreases-each : goal.decreases-each
decreases-each g l = length l.self.core.untaken
