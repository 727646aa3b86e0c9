-- One entry bears the same bytes.
use Rattle.std.proofs.Common.{subst, sym}
use Rattle.gateway_desk.specs.Shown.{HearsAt}
use Rattle.gateway_desk.proofs.Outcomes.{message-so, unheard-not}
use Rattle.gateway_desk.proofs.shown.message_at.Goals as goal

pub returns-in-Some : goal.returns-in-Some
returns-in-Some g c =
    let h = c.args.journal.now.entries in
    message-so c.spelled.result h c.args.number c.as_slice.result.now
    (subst (HearsAt h c.args.number) (sym c.as_slice.ensures) c.in-Some.ensures) c.spelled.ensures

pub returns-in-None : goal.returns-in-None
returns-in-None g c = unheard-not c.args.journal.now.entries c.args.number c.in-None.ensures
