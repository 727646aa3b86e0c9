use Rattle.std.proofs.Common.{[], ◌∷◌, ◌++◌, sym, subst}
use Rattle.journal_book.specs.Entries.{Sends}
use Rattle.exchange_core.specs.Drafts.{DraftValue, Drafts}
use Rattle.exchange_core.proofs.Drafting.{drafts-send}
use Rattle.exchange_core.proofs.draft.Draft.send.Goals as goal

pub returns-clause-drafts : goal.returns-clause-drafts
returns-clause-drafts g c =
    λ S ds h. subst (λ (d : DraftValue). Drafts c.args.moment S (ds ++ Sends c.args.peer c.args.bytes.now c.args.timeout ∷ []) d) (sym c.in_ok-add_sending.ensures) (drafts-send _ S ds _ _ _ _ h)
