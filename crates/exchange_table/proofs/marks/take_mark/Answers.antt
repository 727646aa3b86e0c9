use Rattle.std.proofs.Common.{refl, sym, ◌∙◌, arith}
use Rattle.exchange_table.specs.Places.{IsOnlyAt, IsNowhere}
use Rattle.exchange_table.specs.Marks.{is_mark_of}
use Rattle.exchange_table.proofs.Grouping.{only-below}
use Rattle.exchange_table.proofs.Standing.{filter-none, filter-only}
use Rattle.exchange_table.proofs.marks.take_mark.Goals as goal

pub remove-requires : goal.remove-requires
remove-requires c =
    let marks = c.args.marks.now.items in
    let only : IsOnlyAt (is_mark_of c.args.opening) marks c.in-Some.place = rw (c.as_slice.ensures.value) at c.in-Some.ensures.some in
    let below = only-below (is_mark_of c.args.opening) marks c.in-Some.place only in
    let len = c.args.marks.now.ok.0 in
    omega (arith, below, len)

pub returns-in-Some : goal.returns-in-Some
returns-in-Some c =
    let marks = c.args.marks.now.items in
    let only : IsOnlyAt (is_mark_of c.args.opening) marks c.in-Some.place = rw (c.as_slice.ensures.value) at c.in-Some.ensures.some in
    c.remove.ensures.items ∙ sym (filter-only (is_mark_of c.args.opening) marks c.in-Some.place only)

pub returns-in_default : goal.returns-in_default
returns-in_default c =
    let marks = c.args.marks.now.items in
    let none : IsNowhere (is_mark_of c.args.opening) marks = rw (c.as_slice.ensures.value) at (c.in_default.ensures.none refl) in
    sym (filter-none (is_mark_of c.args.opening) marks none)
