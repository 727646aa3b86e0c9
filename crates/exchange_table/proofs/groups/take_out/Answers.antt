use Rattle.std.proofs.Common.{refl, sym, ◌∙◌, arith}
use Rattle.exchange_table.specs.Places.{IsOnlyAt, IsNowhere}
use Rattle.exchange_table.specs.Readers.{has_ask}
use Rattle.exchange_table.proofs.Grouping.{only-below}
use Rattle.exchange_table.proofs.Standing.{filter-none, filter-only}
use Rattle.exchange_table.proofs.groups.take_out.Goals as goal

pub remove-requires : goal.remove-requires
remove-requires c =
    let groups = c.args.groups.now.items in
    let only : IsOnlyAt (has_ask c.args.ask) groups c.in-Some.place = rw (c.as_slice.ensures.value) at c.in-Some.ensures.some in
    let below = only-below (has_ask c.args.ask) groups c.in-Some.place only in
    let len = c.args.groups.now.ok.0 in
    omega (arith, below, len)

pub returns-in-Some-clause-items : goal.returns-in-Some-clause-items
returns-in-Some-clause-items c =
    let groups = c.args.groups.now.items in
    let only : IsOnlyAt (has_ask c.args.ask) groups c.in-Some.place = rw (c.as_slice.ensures.value) at c.in-Some.ensures.some in
    c.remove.ensures.items ∙ sym (filter-only (has_ask c.args.ask) groups c.in-Some.place only)

pub returns-in_default-clause-items : goal.returns-in_default-clause-items
returns-in_default-clause-items c =
    let groups = c.args.groups.now.items in
    let none : IsNowhere (has_ask c.args.ask) groups = rw (c.as_slice.ensures.value) at (c.in_default.ensures.none refl) in
    sym (filter-none (has_ask c.args.ask) groups none)
