-- The inputs so far were taken.
use Rattle.std.proofs.Common.{◌≡◌, take}
use Rattle.gateway_model.specs.Emissions.{emissions, IsWhole}
use Rattle.gateway_world.specs.Inputs.{TakesAll}
use Rattle.gateway_world.specs.Worlds.{IsAtRest}
use Rattle.gateway_world.proofs.state.World.take_all.Given as goal

abbrev pub invariant-each : goal.invariant-each
invariant-each g l = record {
  taken : TakesAll g.R.Relation.holds g.R.Relation.takes (take l.input-index l.inputs)
      l.initial.self (emissions l.outputs.items) l.self;
  rules : l.self.rules ≡ l.initial.self.rules;
  rests : IsAtRest l.self;
  whole : IsWhole (emissions l.outputs.items);
  given : l.self.core.state.given ≡ l.initial.self.core.state.given;
}
