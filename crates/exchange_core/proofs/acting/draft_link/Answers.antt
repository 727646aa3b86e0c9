use Rattle.std.proofs.Common.{[], List, ℕ, subst, arith}
use Rattle.exchange_core.specs.Drafts.{Drafts}
use Rattle.exchange_core.specs.Hearing.{link_deeds}
use Rattle.exchange_core.specs.States.{state_of}
use Rattle.exchange_core.proofs.Heard.{reply-few}
use Rattle.exchange_core.proofs.acting.draft_link.Goals as goal

pub draft_reply-requires : goal.draft_reply-requires
draft_reply-requires g c =
    let S = state_of c.args.s.now in
    let one = c.in_ok-enter.ensures.drafts S [] tt (c.start_anew.ensures.drafts c.args.moment) in
    let n = one.next in
    let few = c.requires.few in
    omega (arith, n, few)

pub draft_first-requires-clause-next : goal.draft_first-requires-clause-next
draft_first-requires-clause-next g c =
    let S = state_of c.args.s.now in
    let one = c.in_ok-enter.ensures.drafts S [] tt (c.start_anew.ensures.drafts c.args.moment) in
    let two = c.in_ok-draft_reply.ensures.drafts S _ one in
    let n = two.next in
    let few = c.requires.few in
    let r = reply-few c.args.peer c.args.heeding.now.reply in
    omega (arith, n, few, r)

pub returns-clause-drafts : goal.returns-clause-drafts
returns-clause-drafts g c =
    let S = state_of c.args.s.now in
    let one = c.in_ok-enter.ensures.drafts S [] tt (c.start_anew.ensures.drafts c.args.moment) in
    let two = c.in_ok-draft_reply.ensures.drafts S _ one in
    let three = c.in_ok-draft_first.ensures.drafts S _ two in
    subst (λ (b : List ℕ). Drafts c.args.moment S
    (link_deeds c.args.peer b c.args.heeding.now c.args.next.now) c.draft_first.new.draft)
    c.in_ok-bytes.ensures three

pub enter-requires-clause-next : goal.enter-requires-clause-next
enter-requires-clause-next g c =
    let n = (c.start_anew.ensures.drafts c.args.moment).next in
    let few = c.requires.few in
    omega (arith, n, few)
