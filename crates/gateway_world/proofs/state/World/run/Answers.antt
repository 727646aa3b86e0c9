-- What a run gives out is what its journal says.
use Rattle.std.proofs.Common.{ap, ◌∙◌}
use Rattle.gateway_model.specs.Emissions.{emissions}
use Rattle.gateway_world.specs.Worlds.{WorldValue}
use Rattle.gateway_world.proofs.AskedInRun.{run-asks}
use Rattle.gateway_world.proofs.Once.{run-lives}
use Rattle.gateway_world.proofs.Parted.{run-causes, run-in-order, run-mapped, run-once, run-sends, run-stands, run-tells}
use Rattle.gateway_world.proofs.state.World.run.Goals as goal

pub copy_journal-requires : goal.copy_journal-requires
copy_journal-requires g c =
    c.in_ok-take_all.ensures.given ∙ ap (λ (w : WorldValue). w.core.state.given) c.in_ok-world.ensures.is

pub returns-clause-stands : goal.returns-clause-stands
returns-clause-stands g c =
    run-stands g.R.Relation.holds g.R.Relation.takes _ c.args.inputs.now c.in_ok-world.world c.take_all.new.self c.in_ok-journal.journal.entries
    (emissions c.take_all.new.outputs.items)
    c.in_ok-world.ensures.is c.in_ok-take_all.ensures.takes c.in_ok-journal.ensures.stands
    c.in_ok-journal.ensures.entries c.in_ok-take_all.ensures.whole

pub returns-clause-told : goal.returns-clause-told
returns-clause-told g c =
    run-tells g.R.Relation.holds g.R.Relation.takes _ c.args.inputs.now c.in_ok-world.world c.take_all.new.self c.in_ok-journal.journal.entries
    (emissions c.take_all.new.outputs.items)
    c.in_ok-world.ensures.is c.in_ok-take_all.ensures.takes c.in_ok-journal.ensures.stands
    c.in_ok-journal.ensures.entries c.in_ok-take_all.ensures.whole

pub returns-clause-mapped : goal.returns-clause-mapped
returns-clause-mapped g c =
    run-mapped g.R.Relation.holds g.R.Relation.takes _ c.args.inputs.now c.in_ok-world.world c.take_all.new.self c.in_ok-journal.journal.entries
    (emissions c.take_all.new.outputs.items)
    c.in_ok-world.ensures.is c.in_ok-take_all.ensures.takes c.in_ok-journal.ensures.stands
    c.in_ok-journal.ensures.entries c.in_ok-take_all.ensures.whole

pub returns-clause-causes : goal.returns-clause-causes
returns-clause-causes g c =
    run-causes g.R.Relation.holds g.R.Relation.takes _ c.args.inputs.now c.in_ok-world.world c.take_all.new.self c.in_ok-journal.journal.entries
    (emissions c.take_all.new.outputs.items)
    c.in_ok-world.ensures.is c.in_ok-take_all.ensures.takes c.in_ok-journal.ensures.stands
    c.in_ok-journal.ensures.entries c.in_ok-take_all.ensures.whole

pub returns-clause-once : goal.returns-clause-once
returns-clause-once g c =
    run-once g.R.Relation.holds g.R.Relation.takes _ c.args.inputs.now c.in_ok-world.world c.take_all.new.self c.in_ok-journal.journal.entries
    (emissions c.take_all.new.outputs.items)
    c.in_ok-world.ensures.is c.in_ok-take_all.ensures.takes c.in_ok-journal.ensures.stands
    c.in_ok-journal.ensures.entries c.in_ok-take_all.ensures.whole

pub returns-clause-in_order : goal.returns-clause-in_order
returns-clause-in_order g c =
    run-in-order g.R.Relation.holds g.R.Relation.takes _ c.args.inputs.now c.in_ok-world.world c.take_all.new.self c.in_ok-journal.journal.entries
    (emissions c.take_all.new.outputs.items)
    c.in_ok-world.ensures.is c.in_ok-take_all.ensures.takes c.in_ok-journal.ensures.stands
    c.in_ok-journal.ensures.entries c.in_ok-take_all.ensures.whole c.in_order.ensures

pub returns-clause-asks : goal.returns-clause-asks
returns-clause-asks g c =
    run-asks g.R.Relation.holds g.R.Relation.takes _ c.args.inputs.now c.in_ok-world.world c.take_all.new.self c.in_ok-journal.journal.entries
    (emissions c.take_all.new.outputs.items)
    c.in_ok-world.ensures.is c.in_ok-take_all.ensures.takes
    c.in_ok-journal.ensures.entries

pub returns-clause-sends : goal.returns-clause-sends
returns-clause-sends g c =
    run-sends g.R.Relation.holds g.R.Relation.takes _ c.args.inputs.now c.in_ok-world.world c.take_all.new.self c.in_ok-journal.journal.entries
    (emissions c.take_all.new.outputs.items)
    c.in_ok-world.ensures.is c.in_ok-take_all.ensures.takes c.in_ok-journal.ensures.stands
    c.in_ok-journal.ensures.entries c.in_ok-take_all.ensures.whole

pub returns-clause-lives : goal.returns-clause-lives
returns-clause-lives g c =
    run-lives g.R.Relation.holds g.R.Relation.takes _ c.args.inputs.now c.in_ok-world.world c.take_all.new.self
    (emissions c.take_all.new.outputs.items) c.in_ok-journal.journal.entries
    c.in_ok-world.ensures.is c.in_ok-world.ensures.rests c.in_ok-take_all.ensures.takes
