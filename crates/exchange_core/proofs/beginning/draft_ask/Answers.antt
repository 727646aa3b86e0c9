use Rattle.std.proofs.Common.{[], ◌∷◌, subst, arith}
use Rattle.ask_model.specs.Views.{Mapping}
use Rattle.journal_book.specs.Entries.{Asks}
use Rattle.journal_book.specs.Views.{ask_of}
use Rattle.exchange_core.specs.Sending.{sent_first}
use Rattle.exchange_core.specs.Drafts.{Drafts}
use Rattle.exchange_core.specs.States.{state_of}
use Rattle.exchange_core.proofs.beginning.draft_ask.Goals as goal

pub enter-requires-clause-next : goal.enter-requires-clause-next
enter-requires-clause-next g c =
    let n = (c.start_anew.ensures.drafts c.args.moment).next in
    let few = c.requires.few in
    omega (arith, n, few)

pub draft_first-requires-clause-next : goal.draft_first-requires-clause-next
draft_first-requires-clause-next g c =
    let S = state_of c.args.s.now in
    let next = (c.in_ok-enter.ensures.drafts S [] tt (c.start_anew.ensures.drafts c.args.moment)).next in
    let few = c.requires.few in
    omega (arith, next, few)

pub returns-clause-drafts : goal.returns-clause-drafts
returns-clause-drafts g c =
    let S = state_of c.args.s.now in
    let a = c.in_ok-enter.ensures.drafts S [] tt (c.start_anew.ensures.drafts c.args.moment) in
    let b = c.in_ok-draft_first.ensures.drafts S _ a in
    subst (λ (m : Mapping). Drafts c.args.moment S (Asks c.args.conn (ask_of m) ∷ sent_first c.args.peer c.args.sent.now) c.draft_first.new.draft) c.in_ok-asked.ensures b
