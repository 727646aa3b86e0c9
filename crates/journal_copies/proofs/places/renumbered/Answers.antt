use Rattle.std.proofs.Common.{List, Option, map, ap, subst, ◌∙◌, arith, take_all}
use Rattle.journal_book.specs.declared.entry.Mark.{Mark}
use Rattle.exchange_model.specs.Rotating.{copies_with}
use Rattle.journal_copies.specs.declared.taking.Taken.{Taken}
use Rattle.journal_copies.specs.Carrying.{ArePlaces, place_in}
use Rattle.journal_copies.proofs.Placed.{all-moved, moved_taken, places-are}
use Rattle.journal_copies.proofs.places.renumbered.Goals as goal

pub returns : goal.returns
returns c = λ t ws gs h.
    let x = c.in_ok-places.places in
    let past = c.each-test.false in
    let p : ArePlaces c.args.marks.now.marks.items x =
    subst (λ (ms : List (Option Mark)). ArePlaces ms x) c.as_slice.ensures c.in_ok-places.ensures in
    c.each.invariant
    ∙ (ap (λ (xs : List Taken). map (moved_taken (place_in x)) xs) (take_all c.each.carried-index c.args.taken.now (omega (arith, past)))
    ∙ all-moved (place_in x) (copies_with t ws gs) (places-are t ws gs c.args.marks.now x h p) c.args.taken.now)
