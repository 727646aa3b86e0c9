use Rattle.std.proofs.Common.{◌≡◌, subst}
use Rattle.std.specs.Prelude.{IfOk}
use Rattle.exchange_progress.specs.Coming.{IsEnded}
use Rattle.exchange_progress.specs.declared.coming.Ended.{Ended}
use Rattle.exchange_core.specs.declared.storing.Put.{Put}
use Rattle.exchange_core.proofs.Settling.{put-ended, put-renewed, put-turned}
use Rattle.exchange_core.specs.Reading.{IsEndHere}
use Rattle.exchange_core.proofs.storing.put_ended.Goals as goal

pub returns-in-Found : goal.returns-in-Found
returns-in-Found g c = λ n how i.
    subst (λ (o : Put). IfOk c.put_found.result (λ (r : Put). r ≡ o))
    (put-ended n c.args.moment c.args.journal.now.entries c.args.exchange.now c.in-Found.finding how
    (subst (λ (k : Ended). IsEnded n k how) c.in-Found.is i))
    c.put_found.ensures

pub returns-in-Renewed : goal.returns-in-Renewed
returns-in-Renewed g c = λ n how i.
    subst (λ (o : Put). IfOk c.put_renewed.result (λ (r : Put). r ≡ o))
    (put-renewed n c.args.moment c.in-Renewed.opening c.args.journal.now.entries c.args.exchange.now c.in-Renewed.finding how
    (subst (λ (k : Ended). IsEnded n k how) c.in-Renewed.is i))
    c.put_renewed.ensures

pub returns-in-Turned : goal.returns-in-Turned
returns-in-Turned g c = λ n how i.
    put-turned c.args.moment c.args.journal.now.entries c.args.exchange.now how (subst (λ (k : Ended). IsEnded n k how) c.in-Turned.is i)

pub put_found-requires-clause-found : goal.put_found-requires-clause-found
put_found-requires-clause-found g c =
    subst (IsEndHere c.args.journal.now.given c.args.journal.now.kept) c.in-Found.is c.requires.ended

pub put_renewed-requires-clause-found : goal.put_renewed-requires-clause-found
put_renewed-requires-clause-found g c =
    subst (IsEndHere c.args.journal.now.given c.args.journal.now.kept) c.in-Renewed.is c.requires.ended
