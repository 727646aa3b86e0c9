use Rattle.std.proofs.Common.{ap, sym, ◌∙◌}
use Rattle.exchange_model.specs.Due.{has_come}
use Rattle.exchange_model.specs.State.{State}
use Rattle.exchange_model.proofs.CallerLemmas.{next-due}
use Rattle.exchange_core.specs.States.{state_of}
use Rattle.exchange_core.proofs.passing.is_due.Goals as goal

pub returns-in-Some : goal.returns-in-Some
returns-in-Some g c =
    let S : State = state_of c.args.s.now in
    ap (has_come c.args.moment) (sym c.in-Some.is ∙ c.next_due.ensures)
    ∙ sym (next-due c.args.moment S)

pub returns-in-None : goal.returns-in-None
returns-in-None g c =
    let S : State = state_of c.args.s.now in
    ap (has_come c.args.moment) (sym c.in-None.is ∙ c.next_due.ensures)
    ∙ sym (next-due c.args.moment S)
