-- So far datagrams went out, and nothing else changed.
use Rattle.std.proofs.Common.{◌≡◌, ◌≤◌, length}
use Rattle.std.specs.Prelude.{vec_capacity}
use Rattle.gateway_world.specs.Engines.{terms_in}
use Rattle.gateway_world.specs.Leading.{LeadsBy}
use Rattle.gateway_model.specs.Orders.{AreSends}
use Rattle.gateway_world.proofs.engine.Engine.send_all.Given as goal

abbrev pub invariant-each : goal.invariant-each
invariant-each g l = record {
  leads : LeadsBy (terms_in g.R.Relation.holds g.R.Relation.takes l.context) l.context.when AreSends
      l.initial.self l.initial.outputs.items l.self l.outputs.items;
  state : l.self.core.state ≡ l.initial.self.core.state;
  untaken : l.self.core.untaken ≡ l.initial.self.core.untaken;
  table : l.self.table ≡ l.initial.self.table;
  places : vec_capacity l.initial.outputs ≤ vec_capacity l.outputs;
}

abbrev pub decreases-each : goal.decreases-each
decreases-each g l = length l.self.core.unsent
