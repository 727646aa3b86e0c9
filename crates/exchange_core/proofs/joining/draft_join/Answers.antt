use Rattle.std.proofs.Common.{[], ◌∷◌, subst, arith}
use Rattle.ask_model.specs.Views.{Mapping}
use Rattle.journal_book.specs.Entries.{Asks}
use Rattle.journal_book.specs.Views.{ask_of}
use Rattle.exchange_core.specs.Drafts.{Drafts}
use Rattle.exchange_core.specs.States.{state_of}
use Rattle.exchange_core.proofs.joining.draft_join.Goals as goal

pub enter-requires-clause-next : goal.enter-requires-clause-next
enter-requires-clause-next g c =
    let n = (c.start-draft.ensures.drafts c.args.moment).next in
    let few = c.requires.few in
    omega (arith, n, few)

pub returns-clause-drafts : goal.returns-clause-drafts
returns-clause-drafts g c =
    let S = state_of c.args.s.now in
    let a = c.in_ok-enter.ensures.drafts S [] tt (c.start-draft.ensures.drafts c.args.moment) in
    subst (λ (m : Mapping). Drafts c.args.moment S (Asks c.args.conn (ask_of m) ∷ []) c.enter.new.self) c.in_ok-asked.ensures a
