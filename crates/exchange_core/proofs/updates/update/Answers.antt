use Rattle.std.proofs.Common.{◌≡◌, ℕ, ap, subst, sym, ◌∙◌, inl, refl, arith}
use Rattle.coap_codec.specs.Spelling.{content}
use Rattle.endpoint_table.specs.Tables.{link_at}
use Rattle.history_laws.specs.Observing.{as_first}
use Rattle.exchange_progress.specs.Coming.{IsComing}
use Rattle.exchange_progress.specs.declared.coming.Coming.{Coming}
use Rattle.exchange_progress.specs.declared.coming.Coming.TheVariants as Comes
use Rattle.exchange_core.specs.States.{state_of}
use Rattle.exchange_core.proofs.Notified.{full-prepared, renewed-unfound, turned-unfound, unfound-prepared, whole-prepared}
use Rattle.exchange_core.proofs.Settling.{ended-told}
use Rattle.exchange_core.proofs.Started.{begins-prepared, some-asked}
use Rattle.journal_book.specs.Journals.{IsHere}
use Rattle.exchange_progress.specs.declared.coming.Ended.{Ended}
use Rattle.exchange_core.specs.Reading.{IsComingHere, IsEndHere}
use Rattle.exchange_core.proofs.ComesHere.{coming-here, told-first}
use Rattle.exchange_core.proofs.updates.update.Goals as goal

pub returns-in-Ends-Found-clause-prepared : goal.returns-in-Ends-Found-clause-prepared
returns-in-Ends-Found-clause-prepared g c = λ v.
    let S = state_of c.args.s.now in
    let n = c.len-number.result in
    let m = content c.args.message in
    let r = c.args.watch.now in
    let f = c.in-Ends-Found.finding in
    whole-prepared c.args.moment c.args.word c.args.peer.now (link_at c.args.s.now.endpoints c.args.peer.now) c.args.heeding.now S c.args.token.now c.requires.token
    c.notification.result r v n m f c.in_ok-found-in-Ends-Found.found c.len-number.ensures
    (subst (λ (k : Coming). IsComing n k (as_first n 0 m)) (c.in-Ends-Found.is ∙ ap Comes.Ends c.in-Ends-Found.field-0-is) c.in_ok-finding.ensures.coming)
    (λ how i. c.in_ok-found-in-Ends-Found.ensures ∙ ended-told S.entries c.args.moment r.opening n f how i)
    c.notification.ensures.is

pub returns-in-Ends-Renewed-clause-prepared : goal.returns-in-Ends-Renewed-clause-prepared
returns-in-Ends-Renewed-clause-prepared g c = λ v.
    let S = state_of c.args.s.now in
    let n = c.len-number.result in
    let m = content c.args.message in
    unfound-prepared c.args.moment c.args.word c.args.peer.now (link_at c.args.s.now.endpoints c.args.peer.now) c.args.heeding.now S c.args.token.now c.requires.token
    c.notification-in-Ends-Renewed.result c.args.watch.now v n m c.in-Ends-Renewed.field-0 c.len-number.ensures
    (subst (λ (k : Coming). IsComing n k (as_first n 0 m)) c.in-Ends-Renewed.is c.in_ok-finding.ensures.coming)
    (renewed-unfound c.in-Ends-Renewed.field-0 _ _ c.in-Ends-Renewed.field-0-is)
    c.notification-in-Ends-Renewed.ensures.is

pub returns-in-Ends-Turned-clause-prepared : goal.returns-in-Ends-Turned-clause-prepared
returns-in-Ends-Turned-clause-prepared g c = λ v.
    let S = state_of c.args.s.now in
    let n = c.len-number.result in
    let m = content c.args.message in
    unfound-prepared c.args.moment c.args.word c.args.peer.now (link_at c.args.s.now.endpoints c.args.peer.now) c.args.heeding.now S c.args.token.now c.requires.token
    c.notification-in-Ends-Turned.result c.args.watch.now v n m c.in-Ends-Turned.field-0 c.len-number.ensures
    (subst (λ (k : Coming). IsComing n k (as_first n 0 m)) c.in-Ends-Turned.is c.in_ok-finding.ensures.coming)
    (turned-unfound c.in-Ends-Turned.field-0 c.in-Ends-Turned.field-0-is)
    c.notification-in-Ends-Turned.ensures.is

pub returns-then-may_start-clause-prepared : goal.returns-then-may_start-clause-prepared
returns-then-may_start-clause-prepared g c = λ v.
    let S = state_of c.args.s.now in
    let n = c.len-number.result in
    let m = content c.args.message in
    let q = some-asked _ c.requires.asked in
    begins-prepared c.args.moment c.args.word c.args.peer.now (link_at c.args.s.now.endpoints c.args.peer.now) c.args.heeding.now S c.args.token.now c.requires.token
    c.start.result c.args.watch.now v n m c.in-Goes.onward q.0 c.len-number.ensures
    (subst (λ (k : Coming). IsComing n k (as_first n 0 m)) c.in-Goes.is c.in_ok-finding.ensures.coming)
    (sym c.may_start.ensures ∙ c.if-may_start.true) q.1 (c.start.ensures.started q.0 q.1)

pub returns-clause-prepared : goal.returns-clause-prepared
returns-clause-prepared g c = λ v.
    let S = state_of c.args.s.now in
    let n = c.len-number.result in
    let m = content c.args.message in
    full-prepared c.args.moment c.args.word c.args.peer.now (link_at c.args.s.now.endpoints c.args.peer.now) c.args.heeding.now S c.args.token.now c.requires.token
    c.notification-in-Goes.result c.args.watch.now v n m c.in-Goes.onward c.len-number.ensures
    (subst (λ (k : Coming). IsComing n k (as_first n 0 m)) c.in-Goes.is c.in_ok-finding.ensures.coming)
    (sym c.may_start.ensures ∙ c.if-may_start.false) c.notification-in-Goes.ensures.is

pub stored_for-requires : goal.stored_for-requires
stored_for-requires g c =
    let journal = c.args.s.now.journal in
    let n = c.len-number.result in
    let m = content c.args.message in
    let within = c.requires.within in
    let len = c.len-number.ensures in
    subst (IsEndHere journal.given journal.kept) c.in-Ends-Found.field-0-is
    (subst (IsComingHere journal.given journal.kept) c.in-Ends-Found.is
    (coming-here journal.given journal.kept n _ (as_first n 0 m) c.in_ok-finding.ensures.coming
    (told-first (IsHere journal.given journal.kept) n m (inl (omega (arith, within, len))))))

pub returns-in-Ends-Found-clause-here : goal.returns-in-Ends-Found-clause-here
returns-in-Ends-Found-clause-here g c = c.notification.ensures.here _ _

pub returns-in-Ends-Renewed-clause-here : goal.returns-in-Ends-Renewed-clause-here
returns-in-Ends-Renewed-clause-here g c = c.notification-in-Ends-Renewed.ensures.here _ _

pub returns-in-Ends-Turned-clause-here : goal.returns-in-Ends-Turned-clause-here
returns-in-Ends-Turned-clause-here g c = c.notification-in-Ends-Turned.ensures.here _ _

pub returns-clause-here : goal.returns-clause-here
returns-clause-here g c = c.notification-in-Goes.ensures.here _ _
