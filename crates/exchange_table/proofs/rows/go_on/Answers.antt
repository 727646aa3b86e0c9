use Rattle.std.proofs.Common.{◌≡◌, map, refl, set, sym, ap, ◌∙◌}
use Rattle.exchange_table.specs.Tables.{went_on}
use Rattle.exchange_table.proofs.Indexed.{index-go, on-nowhere, on-only}
use Rattle.exchange_table.proofs.rows.go_on.Goals as goal

pub returns-in-Some-clause-rows : goal.returns-in-Some-clause-rows
returns-in-Some-clause-rows c =
    ap (set c.args.rows.now c.in-Some.place) c.continue_row.ensures
    ∙ sym (on-only c.args.token.now c.args.next.now c.args.work c.args.is_first c.args.rows.now c.in-Some.place c.index-rows-place.result c.in-Some.ensures.some)

pub returns-in-Some-clause-names : goal.returns-in-Some-clause-names
returns-in-Some-clause-names c =
    let rows = c.args.rows.now in
    let place = c.in-Some.place in
    let goes = went_on c.args.token.now c.args.next.now c.args.work c.args.is_first in
    let are : set rows place c.continue_row.new.row ≡ map goes rows =
    ap (set rows place) c.continue_row.ensures
    ∙ sym (on-only c.args.token.now c.args.next.now c.args.work c.args.is_first rows place c.index-rows-place.result c.in-Some.ensures.some) in
    rw (are, c.name_anew.ensures.items, c.number_of.ensures, c.number_of-in-Some.ensures)
    (index-go c.args.token.now c.args.next.now c.args.work c.args.is_first rows c.args.names.now.items place c.index-rows-place.result
    c.requires.indexed c.in-Some.ensures.some c.in-Some.ensures.below c.requires.newest)

pub returns-in_default-clause-rows : goal.returns-in_default-clause-rows
returns-in_default-clause-rows c = sym (on-nowhere c.args.token.now c.args.next.now c.args.work c.args.is_first c.args.rows.now (c.in_default.ensures.none refl))
