use Rattle.std.proofs.Common.{◌≡◌, ◌++◌, length, map, ℕ, List, refl, ap, sym, subst, ◌∙◌, arith}
use Rattle.std.specs.List.{AllByRecursion}
use Rattle.journal_book.specs.Entries.{Deed, Written}
use Rattle.exchange_model.specs.State.{State}
use Rattle.exchange_model.specs.Calls.{told_for}
use Rattle.exchange_model.specs.Entering.{answer_of}
use Rattle.exchange_core.specs.declared.ending.Telling.{Telling}
use Rattle.exchange_core.specs.Drafts.{IsDrafted}
use Rattle.exchange_core.specs.Ending.{IsTold, deed_of}
use Rattle.exchange_core.specs.Hearing.{link_deeds}
use Rattle.exchange_core.specs.Matters.{next_in, told_of}
use Rattle.exchange_core.specs.States.{state_of}
use Rattle.exchange_core.specs.Values.{written}
use Rattle.exchange_core.proofs.Drafting.{answers-none}
use Rattle.exchange_core.proofs.Heard.{link-few}
use Rattle.exchange_core.proofs.Tolds.{told-few, told-same}
use Rattle.exchange_model.specs.declared.kept.Reader.{Reader}
use Rattle.exchange_model.specs.Hearing.{Numbers}
use Rattle.exchange_model.specs.Matters.{Matter}
use Rattle.exchange_core.specs.declared.matter.Matter.{Matter as RustMatter}
use Rattle.exchange_core.specs.declared.matter.Matter.TheVariants as M
use Rattle.exchange_core.specs.Matters.{IsMatter}
use Rattle.exchange_core.specs.Reading.{IsMatterHere, IsReaderHere, IsTellingHere}
use Rattle.exchange_core.proofs.Read.{told-here}
use Rattle.exchange_core.proofs.acting.draft_heard.Goals as goal

pub draft_tellings-requires-clause-room : goal.draft_tellings-requires-clause-room
draft_tellings-requires-clause-room g c =
    let S : State = state_of c.args.s.now in
    let k = c.requires.tells in
    let are : c.in_ok-told.told.items ≡ told_of (length S.entries) k.matter S.readers =
    c.in_ok-told.ensures (length S.entries) k.numbers k.matter k.is in
    let next = c.in_ok-draft_link.ensures.drafts.next in
    let few = c.requires.few in
    let link = link-few c.args.peer c.args.datagram.now c.args.heeding.now c.next_in-next.result.now in
    let most = told-few (length S.entries) k.matter S.readers in
    let count = ap (λ (xs : List Telling). length xs) are in
    let readers = c.requires.readers in
    omega (arith, next, few, link, most, count, readers)

pub draft_tellings-requires-clause-told : goal.draft_tellings-requires-clause-told
draft_tellings-requires-clause-told g c =
    let t = c.args.moment in
    let S : State = state_of c.args.s.now in
    let k = c.requires.tells in
    let are : c.in_ok-told.told.items ≡ told_of (length S.entries) k.matter S.readers =
    c.in_ok-told.ensures (length S.entries) k.numbers k.matter k.is in
    let drafted : c.draft_link.new.draft.entries ≡ map (written t) (link_deeds c.args.peer c.args.datagram.now c.args.heeding.now (next_in c.args.heeding.now c.args.matter.now)) =
    c.in_ok-draft_link.ensures.drafts.entries
    ∙ ap (λ v. map (written t) (link_deeds c.args.peer c.args.datagram.now c.args.heeding.now v)) c.next_in-next.ensures in
    subst (AllByRecursion (IsTold S.entries c.draft_link.new.draft.entries t)) (sym are)
    (subst (λ (ws : List Written). AllByRecursion (IsTold S.entries ws t) (told_of (length S.entries) k.matter S.readers)) (sym drafted) k.told)

pub returns : goal.returns
returns g c = λ new x i.
    let t = c.args.moment in
    let S : State = state_of c.args.s.now in
    let n : ℕ = length S.entries in
    let ds = link_deeds c.args.peer c.args.datagram.now c.args.heeding.now in
    let now = c.next_in-next.result.now in
    let are : c.in_ok-told.told.items ≡ told_of n x S.readers =
    c.in_ok-told.ensures n new x i in
    subst (λ (es : List Deed). IsDrafted t S es c.draft_tellings.new.draft)
    (ap (λ (xs : List Telling). ds now ++ map deed_of xs) are
    ∙ (ap (λ (es : List Deed). ds now ++ es) (told-same n x S.readers)
    ∙ ap (λ v. ds v ++ map answer_of (told_for n x S.readers)) c.next_in-next.ensures))
    (c.in_ok-draft_tellings.ensures S (ds now) refl
    (answers-none t S (ds now) c.draft_link.new.draft c.in_ok-draft_link.ensures.drafts c.in_ok-draft_link.ensures.answers))

-- what a matter is told of can be read, as its end can
matter-here : (given : ℕ) (kept : List ℕ) (n : ℕ) (new : Numbers) (k : RustMatter) (x : Matter) (rs : List Reader)
    → IsMatter n new k x → IsMatterHere given kept k → AllByRecursion (IsReaderHere given kept) rs
    → AllByRecursion (IsTellingHere given kept) (told_of n x rs)
matter-here given kept n new M.Nothing x rs is h all = subst (λ (y : Matter). AllByRecursion (IsTellingHere given kept) (told_of n y rs)) (sym is) tt
matter-here given kept n new (M.Tells k) x rs is h all = subst (λ (y : Matter). AllByRecursion (IsTellingHere given kept) (told_of n y rs)) (sym is.1) tt
matter-here given kept n new (M.Starts k) x rs is h all = subst (λ (y : Matter). AllByRecursion (IsTellingHere given kept) (told_of n y rs)) (sym is.2) tt
matter-here given kept n new (M.Goes k) x rs is h all = subst (λ (y : Matter). AllByRecursion (IsTellingHere given kept) (told_of n y rs)) (sym is.1) tt
matter-here given kept n new (M.Over e ended) x rs is h all =
    subst (λ (y : Matter). AllByRecursion (IsTellingHere given kept) (told_of n y rs)) (sym is.1)
    (told-here given kept n ended is.0 e rs is.2 h.1 all)

pub draft_tellings-requires-clause-here : goal.draft_tellings-requires-clause-here
draft_tellings-requires-clause-here g c =
    let S : State = state_of c.args.s.now in
    let k = c.requires.tells in
    let are : c.in_ok-told.told.items ≡ told_of (length S.entries) k.matter S.readers =
    c.in_ok-told.ensures (length S.entries) k.numbers k.matter k.is in
    subst (AllByRecursion (IsTellingHere S.given S.kept)) (sym are)
    (matter-here S.given S.kept (length S.entries) k.numbers c.args.matter.now k.matter S.readers k.is c.requires.here c.requires.waiting)
