use Rattle.std.proofs.Common.{[], ◌∷◌, ◌++◌, sym, subst}
use Rattle.journal_book.specs.Entries.{Answers}
use Rattle.exchange_core.specs.Answering.{given_of}
use Rattle.exchange_core.specs.Drafts.{DraftValue, Drafts}
use Rattle.exchange_core.proofs.Drafting.{drafts-answer}
use Rattle.exchange_core.proofs.draft.Draft.answer.Goals as goal

pub returns-clause-drafts : goal.returns-clause-drafts
returns-clause-drafts g c =
    λ S ds n h. subst (λ (d : DraftValue). Drafts c.args.answer.moment S (ds ++ Answers c.args.answer.conn c.args.answer.ask c.args.answer.finding.grounds ∷ []) d) (sym c.in_ok-add_answer.ensures) (drafts-answer S ds (given_of c.args.answer) _ n h)
