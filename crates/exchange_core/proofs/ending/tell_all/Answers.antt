use Rattle.std.proofs.Common.{List, length, ap, sym, subst, arith}
use Rattle.exchange_model.specs.Matters.{Over}
use Rattle.exchange_core.specs.declared.ending.Telling.{Telling}
use Rattle.exchange_core.proofs.Tolds.{told-few}
use Rattle.std.specs.List.{AllByRecursion}
use Rattle.exchange_core.specs.Reading.{IsTellingHere}
use Rattle.exchange_core.proofs.Read.{told-here}
use Rattle.exchange_core.proofs.ending.tell_all.Goals as goal

pub draft_tellings-requires-clause-room : goal.draft_tellings-requires-clause-room
draft_tellings-requires-clause-room g c =
    let k = c.requires.told in
    let count = ap (λ (xs : List Telling). length xs) (c.in_ok-told.ensures k.number k.how k.is) in
    let most = told-few k.number (Over c.args.exchange.now k.how) c.args.readers.now.items in
    let room = c.requires.room in
    omega (arith, count, most, room)

pub draft_tellings-requires-clause-here : goal.draft_tellings-requires-clause-here
draft_tellings-requires-clause-here g c =
    let k = c.requires.told in
    let j = c.args.journal.now in
    subst (AllByRecursion (IsTellingHere j.given j.kept)) (sym (c.in_ok-told.ensures k.number k.how k.is))
    (told-here j.given j.kept k.number c.args.ended k.how c.args.exchange.now c.args.readers.now.items k.is c.requires.ended c.requires.waiting)
