use Rattle.std.proofs.Common.{◌∷◌, [], ◌∙◌, arith}
use Rattle.journal_book.specs.Entries.{Seals}
use Rattle.exchange_model.specs.State.{State}
use Rattle.exchange_core.specs.States.{state_of}
use Rattle.exchange_core.proofs.Drafting.{answers-none}
use Rattle.exchange_core.proofs.Sounding.{place-left}
use Rattle.exchange_core.proofs.timeouts.draft_sealing.Goals as goal

pub start-draft-requires : goal.start-draft-requires
start-draft-requires g c = let left = place-left _ _ _ _ c.requires in omega (arith, left)

pub enter-requires-clause-next : goal.enter-requires-clause-next
enter-requires-clause-next g c =
    let n = (c.start-draft.ensures.drafts c.args.moment).next in
    let left = place-left _ _ _ _ c.requires in
    omega (arith, n, left)

pub draft_past-requires-clause-few : goal.draft_past-requires-clause-few
draft_past-requires-clause-few g c =
    let n = (c.start-draft.ensures.drafts c.args.moment).next in
    let m = c.in_ok-enter.ensures.next in
    omega (arith, n, m)

pub returns : goal.returns
returns g c =
    let t = c.args.moment in
    let S : State = state_of c.args.s.now in
    c.in_ok-draft_past.ensures (Seals ∷ [])
    (answers-none t S (Seals ∷ []) _ (c.in_ok-enter.ensures.drafts S [] tt (c.start-draft.ensures.drafts t))
    (c.in_ok-enter.ensures.answers ∙ c.start-draft.ensures.answers))
