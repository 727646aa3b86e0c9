use Rattle.std.proofs.Common.{subst, sym}
use Rattle.std.specs.List.{AllByRecursion}
use Rattle.exchange_model.specs.State.{State}
use Rattle.exchange_model.specs.Matters.{IsDigested}
use Rattle.exchange_table.specs.Asks.{IsAskedHere}
use Rattle.exchange_core.specs.Reading.{IsMatterHere}
use Rattle.exchange_core.proofs.acting.add_heard.Goals as goal

pub change_tables-requires-clause-ready : goal.change_tables-requires-clause-ready
change_tables-requires-clause-ready g c = rw (c.make_room_to_add.ensures.endpoints) c.requires.ready

pub change_tables-requires-clause-follows : goal.change_tables-requires-clause-follows
change_tables-requires-clause-follows g c = rw (c.make_room_to_add.ensures.endpoints) c.requires.follows

pub change_tables-requires-clause-known : goal.change_tables-requires-clause-known
change_tables-requires-clause-known g c = rw (c.make_room_to_add.ensures.endpoints) c.requires.known

pub change_tables-requires-clause-digests : goal.change_tables-requires-clause-digests
change_tables-requires-clause-digests g c =
    subst (λ (V : State). AllByRecursion (IsDigested V.entries) V.exchanges) (sym c.make_room_to_add.ensures.same.state) c.requires.digests

pub change_tables-requires-clause-here : goal.change_tables-requires-clause-here
change_tables-requires-clause-here g c =
    subst (λ (V : State). AllByRecursion (IsAskedHere V.given V.kept) V.exchanges) (sym c.make_room_to_add.ensures.same.state) c.requires.here

pub change_tables-requires-clause-matter : goal.change_tables-requires-clause-matter
change_tables-requires-clause-matter g c =
    subst (λ (V : State). IsMatterHere V.given V.kept c.args.matter) (sym c.make_room_to_add.ensures.same.state) c.requires.matter
