use Rattle.std.proofs.Common.{◌≡◌, ◌++◌, List, length, map, refl, sym, ap, subst, ◌∙◌, arith}
use Rattle.std.specs.Prelude.{OnOk}
use Rattle.std.specs.List.{AllByRecursion}
use Rattle.journal_book.specs.Entries.{Deed}
use Rattle.exchange_core.specs.declared.ending.Telling.{Telling}
use Rattle.exchange_core.specs.Drafts.{IsDrafted}
use Rattle.exchange_core.specs.Ending.{IsTold, deed_of, late_to, out_of_time}
use Rattle.exchange_core.specs.States.{state_of}
use Rattle.exchange_core.proofs.Readers.{few-told, late-same, late-told}
use Rattle.exchange_core.specs.Reading.{IsTellingHere}
use Rattle.exchange_core.proofs.Read.{late-here}
use Rattle.exchange_core.proofs.timeouts.draft_timeouts.Goals as goal

pub draft_tellings-requires-clause-room : goal.draft_tellings-requires-clause-room
draft_tellings-requires-clause-room g c =
    let rs = c.args.s.now.readers.items in
    let are : c.in_ok-told.told.items ≡ out_of_time c.args.exchanges.now rs =
    c.in_ok-told.ensures ∙ rw (c.as_slice.ensures) refl in
    let count = ap (λ (xs : List Telling). length xs) are in
    let few = few-told (late_to c.args.exchanges.now) rs in
    let room = c.requires.room in
    omega (arith, count, few, room)

pub draft_tellings-requires-clause-told : goal.draft_tellings-requires-clause-told
draft_tellings-requires-clause-told g c =
    let rs = c.args.s.now.readers.items in
    let are : c.in_ok-told.told.items ≡ out_of_time c.args.exchanges.now rs =
    c.in_ok-told.ensures ∙ rw (c.as_slice.ensures) refl in
    subst (AllByRecursion (IsTold c.args.s.now.journal.entries c.args.draft.now.entries c.args.moment)) (sym are)
    (late-told c.args.s.now.journal.entries c.args.draft.now.entries c.args.moment c.args.exchanges.now rs c.requires.asked)

pub returns : goal.returns
returns g c = λ ds h.
    let t = c.args.moment in
    let S = state_of c.args.s.now in
    let rs = c.args.s.now.readers.items in
    let are : c.in_ok-told.told.items ≡ out_of_time c.args.exchanges.now rs =
    c.in_ok-told.ensures ∙ rw (c.as_slice.ensures) refl in
    subst (λ (es : List Deed). OnOk c.draft_tellings.result (IsDrafted t S (ds ++ es) c.draft_tellings.new.draft))
    (ap (map deed_of) are ∙ late-same c.args.exchanges.now rs) (c.draft_tellings.ensures S ds refl h)

pub draft_tellings-requires-clause-here : goal.draft_tellings-requires-clause-here
draft_tellings-requires-clause-here g c =
    let j = c.args.s.now.journal in
    let rs = c.args.s.now.readers.items in
    let are : c.in_ok-told.told.items ≡ out_of_time c.args.exchanges.now rs =
    c.in_ok-told.ensures ∙ rw (c.as_slice.ensures) refl in
    subst (AllByRecursion (IsTellingHere j.given j.kept)) (sym are)
    (late-here j.given j.kept c.args.exchanges.now rs c.requires.here)
