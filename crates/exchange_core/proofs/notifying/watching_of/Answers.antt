use Rattle.std.proofs.Common.{◌++◌, List, length, ℕ, sym, ap, subst, ◌∙◌}
use Rattle.std.specs.Prelude.{IfOk}
use Rattle.observe_share.specs.declared.registration.Registration.{Registration}
use Rattle.observe_share.specs.declared.notice.Notice.{Notice}
use Rattle.exchange_model.specs.Matters.{asked_in}
use Rattle.exchange_model.specs.Watching.{is_written_by, tokens_of}
use Rattle.exchange_core.specs.declared.matter.Matter.{Matter as RustMatter}
use Rattle.exchange_core.specs.declared.notifying.Watching.{Watching}
use Rattle.exchange_core.specs.Matters.{IsMatter}
use Rattle.exchange_core.specs.Notifying.{IsNoted, IsNotedIn, IsWatchedBy, ReadsIn, registered_by, unless_more}
use Rattle.exchange_core.specs.States.{state_of}
use Rattle.exchange_core.proofs.Notified.{goes-ok, watched-over}
use Rattle.exchange_core.specs.Reading.{IsMatterHere}
use Rattle.exchange_core.proofs.notifying.watching_of.Goals as goal

pub returns-in-Goes-clause-is : goal.returns-in-Goes-clause-is
returns-in-Goes-clause-is g c = λ m new x i noted.
    let S = state_of c.args.s.now in
    let entries = c.args.s.now.journal.entries in
    subst (λ (k : RustMatter). IfOk c.watching_by.result (λ (w : Watching). IsWatchedBy c.args.moment m k w x S)) (sym c.in-Goes.is)
    (goes-ok c.watching_by.result c.args.moment (length entries) new m c.args.notice c.in-Goes.going x S
    (subst (λ (k : RustMatter). IsMatter (length entries) new k x) c.in-Goes.is i) (subst (IsNotedIn c.args.notice m) c.in-Goes.is noted)
    (subst (ReadsIn entries) c.in-Goes.is c.requires.reads) c.watching_by.ensures.more c.watching_by.ensures.gone c.watching_by.ensures.notice)

pub returns-in_ok-add_written-in-Over-clause-is : goal.returns-in_ok-add_written-in-Over-clause-is
returns-in_ok-add_written-in-Over-clause-is g c = λ m new x i noted.
    let S = state_of c.args.s.now in
    let entries = c.args.s.now.journal.entries in
    let e = c.in-Over.exchange in
    let old = c.in_ok-watching-in-Over.watching in
    let h = c.in_ok-watching-in-Over.ensures in
    let w : Watching = record { notice = old.notice; more = old.more; gone = c.add_written.new.tokens } in
    subst (λ (k : RustMatter). IsWatchedBy c.args.moment m k w x S) (sym c.in-Over.is)
    (watched-over c.args.moment (length entries) new m e c.in-Over.field-1 w x S
    (subst (λ (k : RustMatter). IsMatter (length entries) new k x) c.in-Over.is i)
    (subst (λ (v : Notice). IsNoted v m e.token) (sym h.notice) (subst (IsNotedIn c.args.notice m) c.in-Over.is noted))
    (subst (ReadsIn entries) c.in-Over.is c.requires.reads)
    (h.more ∙ ap (λ (v : Notice). registered_by c.args.moment v e S.entries S.watches) (sym h.notice))
    (c.in_ok-add_written-in-Over.ensures
    ∙ ap (λ (ts : List (List ℕ)). ts ++ tokens_of (is_written_by (asked_in entries e.ask)) S.watches) h.gone))

pub watching_by-requires-clause-here : goal.watching_by-requires-clause-here
watching_by-requires-clause-here g c =
    subst (IsMatterHere c.args.s.now.journal.given c.args.s.now.journal.kept) c.in-Goes.is c.requires.here

pub watching_by-requires-in-Over-clause-here : goal.watching_by-requires-in-Over-clause-here
watching_by-requires-in-Over-clause-here g c =
    (subst (IsMatterHere c.args.s.now.journal.given c.args.s.now.journal.kept) c.in-Over.is c.requires.here).0

pub add_written-requires : goal.add_written-requires
add_written-requires g c =
    (subst (IsMatterHere c.args.s.now.journal.given c.args.s.now.journal.kept) c.in-Over.is c.requires.here).0
