-- So far acts were done for the connection, and what waited waits.
use Rattle.std.proofs.Common.{◌≤◌}
use Rattle.std.specs.Prelude.{vec_capacity}
use Rattle.gateway_world.specs.Engines.{terms_in, work_at, KeepsWaiting, MayGoBack}
use Rattle.gateway_world.specs.Leading.{LeadsBy}
use Rattle.gateway_model.specs.Orders.{AreFor}
use Rattle.gateway_world.proofs.engine.Engine.serve.Given as goal

abbrev pub invariant-each : goal.invariant-each
invariant-each g l = record {
  leads : LeadsBy (terms_in g.R.Relation.holds g.R.Relation.takes l.context) l.context.when (AreFor l.number)
      l.initial.self l.initial.outputs.items l.self l.outputs.items;
  back : MayGoBack l.initial.self l.self;
  waits : KeepsWaiting l.initial.self.core l.self.core;
  places : vec_capacity l.initial.outputs ≤ vec_capacity l.outputs;
}

abbrev pub decreases-each : goal.decreases-each
decreases-each g l = work_at l.number l.self
