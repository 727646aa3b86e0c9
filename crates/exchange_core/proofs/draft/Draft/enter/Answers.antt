use Rattle.std.proofs.Common.{[], ◌∷◌, ◌++◌, sym, subst}
use Rattle.journal_book.specs.Views.{event_of}
use Rattle.exchange_core.specs.Drafts.{DraftValue, Drafts}
use Rattle.exchange_core.proofs.Drafting.{drafts-alone}
use Rattle.exchange_core.proofs.draft.Draft.enter.Goals as goal

pub returns-clause-drafts : goal.returns-clause-drafts
returns-clause-drafts g c =
    λ S ds a h. subst (λ (d : DraftValue). Drafts c.args.entry.moment S (ds ++ event_of c.args.entry.event ∷ []) d) (sym c.in_ok-add.ensures) (drafts-alone _ S ds _ _ c.requires.keeps a h)
