-- What the entry says was heard.
use Rattle.gateway_desk.proofs.Outcomes.{hears-so}
use Rattle.gateway_desk.proofs.shown.heard_at.Goals as goal

pub returns-in-Some : goal.returns-in-Some
returns-in-Some g c =
    hears-so c.heard_in.result (λ b. b.now) c.args.journal.now.entries c.args.number _ _ (rw c.in-Some.is at c.get.ensures) c.heard_in.ensures
