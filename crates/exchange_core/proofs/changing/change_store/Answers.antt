use Rattle.std.proofs.Common.{subst, ◌∙◌}
use Rattle.exchange_core.specs.declared.matter.Matter.{Matter as RustMatter}
use Rattle.exchange_core.specs.Matters.{IsMatter}
use Rattle.exchange_core.proofs.Settling.{stored-over, stored-starts}
use Rattle.exchange_core.specs.Reading.{IsMatterHere}
use Rattle.exchange_core.proofs.changing.change_store.Goals as goal

pub returns-in-Over : goal.returns-in-Over
returns-in-Over g c = λ n t new x i is.
    c.settle.ensures
    ∙ stored-over n t c.args.journal.now.entries new c.in-Over.exchange c.in-Over.field-1 x c.args.put c.args.store.now.pairs
    (subst (λ (k : RustMatter). IsMatter n new k x) c.in-Over.is i) is

pub returns-in-Starts : goal.returns-in-Starts
returns-in-Starts g c = λ n t new x i is.
    stored-starts n t c.args.journal.now.entries new c.in-Starts.starting x c.args.put c.args.store.now.pairs _
    (subst (λ (k : RustMatter). IsMatter n new k x) c.in-Starts.is i) is c.retell-in-Starts.ensures

pub settle-requires-clause-here : goal.settle-requires-clause-here
settle-requires-clause-here g c =
    (subst (IsMatterHere c.args.journal.now.given c.args.journal.now.kept) c.in-Over.is c.requires.here).0
