use Rattle.std.proofs.Common.{length, ltb-true, sym}
use Rattle.exchange_table.specs.Readers.{opening_read}
use Rattle.exchange_table.proofs.Grouping.{after-last}
use Rattle.exchange_table.proofs.groups.place_after.Goals as goal

pub returns-then-last-opening : goal.returns-then-last-opening
returns-then-last-opening c =
    let xs = c.args.groups.now in
    let at = c.in-Some.ensures.item in
    after-last opening_read c.args.opening xs c.in-Some.last.now c.requires at.1 (ltb-true 0 (length xs) (sym at.0)) c.if-last-opening.true

pub returns : goal.returns
returns c = rw (c.from.ensures) at c.first_from.ensures
