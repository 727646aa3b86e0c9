use Rattle.std.proofs.Common.{[], arith}
use Rattle.exchange_core.specs.States.{state_of}
use Rattle.exchange_core.proofs.Recalls.{recall-drafted}
use Rattle.exchange_core.proofs.recalling.draft_recall.Goals as goal

pub enter-requires-clause-next : goal.enter-requires-clause-next
enter-requires-clause-next g c =
    let n = (c.start-draft.ensures.drafts c.args.moment).next in
    let few = c.requires.few in
    omega (arith, n, few)

pub answer-requires : goal.answer-requires
answer-requires g c =
    let S = state_of c.args.s.now in
    let next = (c.in_ok-enter.ensures.drafts S [] tt (c.start-draft.ensures.drafts c.args.moment)).next in
    let few = c.requires.few in
    omega (arith, next, few)

pub returns-clause-drafts : goal.returns-clause-drafts
returns-clause-drafts g c =
    recall-drafted _ _ _ (state_of c.args.s.now) _ _ _ c.args.stored.now _ _ _ _ c.len-number.ensures c.in_ok-asked.ensures
    c.in_ok-given.ensures (c.start-draft.ensures.drafts c.args.moment)
    (λ h. c.in_ok-enter.ensures.drafts _ [] tt h) (λ n h. c.in_ok-answer.ensures.drafts _ _ n h)
