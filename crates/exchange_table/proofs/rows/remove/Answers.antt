use Rattle.std.proofs.Common.{◌≡◌, true, not, List, length, ◌<◌, option_map, refl, sym, ap, subst, ◌∙◌, arith}
use Rattle.std.specs.Prelude.{filter}
use Rattle.std.specs.List.{AllByRecursion}
use Rattle.exchange_model.specs.declared.kept.Exchange.{Exchange}
use Rattle.exchange_model.specs.Steps.{is_under}
use Rattle.history_laws.specs.Numbering.{token_number}
use Rattle.exchange_table.specs.declared.index.Named.{Named}
use Rattle.exchange_table.specs.declared.marks.Mark.{Mark}
use Rattle.exchange_table.specs.Marks.{IsTable, is_mark_of, key_in, place_in}
use Rattle.exchange_table.specs.Places.{IsOnlyAt, IsNowhere}
use Rattle.exchange_table.specs.Tables.{has_number, opening_in}
use Rattle.exchange_table.proofs.Standing.{filter-only, filter-none, find-none}
use Rattle.exchange_table.proofs.Indexed.{index-remove, under-none}
use Rattle.exchange_table.proofs.Marking.{mark-there, rise-in-group, table-left}
use Rattle.exchange_table.proofs.rows.remove.Goals as goal

pub name_place-requires : goal.name_place-requires
name_place-requires c = rw (c.as_slice.ensures.value) c.requires.indexed.numbers

pub place_named-requires-clause-indexed : goal.place_named-requires-clause-indexed
place_named-requires-clause-indexed c = rw (c.as_slice-2.ensures.value, c.as_slice-3.ensures.value) c.requires.indexed

pub place_named-requires-clause-inside : goal.place_named-requires-clause-inside
place_named-requires-clause-inside c = rw (c.as_slice-3.ensures.value, ← c.as_slice.ensures.value) c.in-Some.ensures.below

pub place_named-requires-clause-named : goal.place_named-requires-clause-named
place_named-requires-clause-named c = rw (c.as_slice-3.ensures.value, ← c.as_slice.ensures.value, ← c.number_of.ensures) c.in-Some.ensures.some

pub remove-gone-requires : goal.remove-gone-requires
remove-gone-requires c =
    let below = c.in-Some-place_named.ensures.below in
    let len = c.as_slice-2.ensures.len in
    omega (arith, below, len)

pub remove-requires : goal.remove-requires
remove-requires c =
    let below = c.in-Some.ensures.below in
    let len = c.as_slice.ensures.len in
    omega (arith, below, len)

pub take_mark-requires-clause-order : goal.take_mark-requires-clause-order
take_mark-requires-clause-order c = c.requires.keyed.order

pub take_mark-requires-clause-openings : goal.take_mark-requires-clause-openings
take_mark-requires-clause-openings c =
    rw (c.half_of.ensures) (rise-in-group key_in (key_in c.remove-gone.result.digests) c.args.rows.now.items c.args.keys.now.items c.requires.indexed.openings c.requires.keyed)

pub take_mark-requires-clause-there : goal.take_mark-requires-clause-there
take_mark-requires-clause-there c =
    let rows = c.args.rows.now.items in
    let marks = c.args.keys.now.items in
    let at : IsOnlyAt (is_under c.args.token.now) rows c.in-Some-place_named.place = rw (c.as_slice-2.ensures.value) at c.in-Some-place_named.ensures.some in
    let below = c.in-Some-place_named.ensures.below in
    let len = c.as_slice-2.ensures.len in
    rw (c.half_of.ensures) (subst (λ (e : Exchange). AllByRecursion (λ (m : Mark). is_mark_of e.opening m ≡ true → m.digest ≡ key_in e.digests) marks) (sym c.remove-gone.ensures.value)
    (mark-there (is_under c.args.token.now) rows c.in-Some-place_named.place c.remove-gone.result c.requires.indexed.openings at (omega (arith, below, len)) key_in marks c.requires.keyed))

pub take_mark-requires-in-Some-place_named-clause-order : goal.take_mark-requires-in-Some-place_named-clause-order
take_mark-requires-in-Some-place_named-clause-order c = c.requires.placed.order

pub take_mark-requires-in-Some-place_named-clause-openings : goal.take_mark-requires-in-Some-place_named-clause-openings
take_mark-requires-in-Some-place_named-clause-openings c =
    rw (c.half_of-in-Some-place_named.ensures) (rise-in-group place_in (place_in c.remove-gone.result.digests) c.args.rows.now.items c.args.places.now.items c.requires.indexed.openings c.requires.placed)

pub take_mark-requires-in-Some-place_named-clause-there : goal.take_mark-requires-in-Some-place_named-clause-there
take_mark-requires-in-Some-place_named-clause-there c =
    let rows = c.args.rows.now.items in
    let marks = c.args.places.now.items in
    let at : IsOnlyAt (is_under c.args.token.now) rows c.in-Some-place_named.place = rw (c.as_slice-2.ensures.value) at c.in-Some-place_named.ensures.some in
    let below = c.in-Some-place_named.ensures.below in
    let len = c.as_slice-2.ensures.len in
    rw (c.half_of-in-Some-place_named.ensures) (subst (λ (e : Exchange). AllByRecursion (λ (m : Mark). is_mark_of e.opening m ≡ true → m.digest ≡ place_in e.digests) marks) (sym c.remove-gone.ensures.value)
    (mark-there (is_under c.args.token.now) rows c.in-Some-place_named.place c.remove-gone.result c.requires.indexed.openings at (omega (arith, below, len)) place_in marks c.requires.placed))

pub returns-in-Some-place_named-clause-rows : goal.returns-in-Some-place_named-clause-rows
returns-in-Some-place_named-clause-rows c =
    let at : IsOnlyAt (is_under c.args.token.now) c.args.rows.now.items c.in-Some-place_named.place = rw (c.as_slice-2.ensures.value) at c.in-Some-place_named.ensures.some in
    c.remove-gone.ensures.items ∙ sym (filter-only (is_under c.args.token.now) c.args.rows.now.items c.in-Some-place_named.place at)

pub returns-in-Some-place_named-clause-table : goal.returns-in-Some-place_named-clause-table
returns-in-Some-place_named-clause-table c =
    let rows = c.args.rows.now.items in
    let names = c.args.names.now.items in
    let keys = c.args.keys.now.items in
    let places = c.args.places.now.items in
    let at : IsOnlyAt (is_under c.args.token.now) rows c.in-Some-place_named.place = rw (c.as_slice-2.ensures.value) at c.in-Some-place_named.ensures.some in
    let below = c.in-Some-place_named.ensures.below in
    let len = c.as_slice-2.ensures.len in
    let lt : c.in-Some-place_named.place < length rows = omega (arith, below, len) in
    let left : List Named = filter (λ (x : Named). not (has_number (token_number c.args.token.now) x)) names in
    let named : IsOnlyAt (has_number (token_number c.args.token.now)) names c.in-Some.name = rw (c.as_slice.ensures.value, c.number_of.ensures) at c.in-Some.ensures.some in
    rw (c.remove-gone.ensures.items, ← filter-only (is_under c.args.token.now) rows c.in-Some-place_named.place at, c.remove.ensures.items, ← filter-only (has_number (token_number c.args.token.now)) names c.in-Some.name named, c.take_mark.ensures, c.take_mark-in-Some-place_named.ensures)
    (subst (λ (e : Exchange). IsTable (filter (λ (f : Exchange). not (is_under c.args.token.now f)) rows) left (filter (λ (m : Mark). not (is_mark_of e.opening m)) keys) (filter (λ (m : Mark). not (is_mark_of e.opening m)) places)) (sym c.remove-gone.ensures.value)
    (table-left (is_under c.args.token.now) rows c.in-Some-place_named.place c.remove-gone.result c.requires.indexed.openings at lt names left keys places
    (index-remove rows names c.args.token.now c.in-Some-place_named.place c.remove-gone.result c.requires.indexed at lt) c.requires))

pub returns-in_default-clause-rows : goal.returns-in_default-clause-rows
returns-in_default-clause-rows c =
    let rows = c.args.rows.now.items in
    let nobody : IsNowhere (has_number (token_number c.args.token.now)) c.args.names.now.items = rw (c.as_slice.ensures.value, c.number_of.ensures) at (c.in_default.ensures.none refl) in
    let none = under-none rows c.args.names.now.items c.args.token.now c.requires.indexed (sym (ap (option_map opening_in) (find-none (has_number (token_number c.args.token.now)) c.args.names.now.items nobody))) in
    sym (filter-none (is_under c.args.token.now) rows none)

pub returns-in_default-place_named-clause-rows : goal.returns-in_default-place_named-clause-rows
returns-in_default-place_named-clause-rows c =
    let none : IsNowhere (is_under c.args.token.now) c.args.rows.now.items = rw (c.as_slice-2.ensures.value) at (c.in_default-place_named.ensures.none refl) in
    sym (filter-none (is_under c.args.token.now) c.args.rows.now.items none)
