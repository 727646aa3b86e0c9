use Rattle.std.proofs.Common.{◌≡◌, ℕ, List, ◌++◌, ◌∷◌, [], Option, Some, option_map, refl, sym, ap, ◌∙◌, arith}
use Rattle.exchange_table.specs.declared.index.Named.{Named}
use Rattle.exchange_table.specs.Places.{IsOnlyAt, IsNowhere}
use Rattle.exchange_table.specs.Tables.{has_number, named_anew, opening_in, opening_under}
use Rattle.exchange_table.proofs.Standing.{filter-only, find-none, find-only}
use Rattle.exchange_table.proofs.index.name_anew.Goals as goal

pub remove-name-requires : goal.remove-name-requires
remove-name-requires c =
    let below = c.in-Some.ensures.below in
    let len = c.as_slice.ensures.len in
    omega (arith, below, len)

pub returns-in-Some-clause-items : goal.returns-in-Some-clause-items
returns-in-Some-clause-items c =
    let n = c.args.number in
    let xs = c.args.names.now.items in
    let at : IsOnlyAt (has_number n) xs c.in-Some.place = rw (c.as_slice.ensures.value) at c.in-Some.ensures.some in
    let opening : opening_under n xs ≡ Some c.remove-name.result.opening =
    ap (option_map opening_in) (find-only (has_number n) xs c.in-Some.place c.remove-name.result at ∙ ap Some (sym c.remove-name.ensures.value)) in
    c.push_reserved.ensures.items
    ∙ (ap (λ (ns : List Named). ns ++ record { number = c.args.next; opening = c.remove-name.result.opening } ∷ [])
    (c.remove-name.ensures.items ∙ sym (filter-only (has_number n) xs c.in-Some.place at))
    ∙ ap (λ (o : Option ℕ). named_anew n c.args.next o xs) (sym opening))

pub returns-in_default-clause-items : goal.returns-in_default-clause-items
returns-in_default-clause-items c =
    let n = c.args.number in
    let xs = c.args.names.now.items in
    let none : IsNowhere (has_number n) xs = rw (c.as_slice.ensures.value) at (c.in_default.ensures.none refl) in
    sym (ap (λ (o : Option ℕ). named_anew n c.args.next o xs) (ap (option_map opening_in) (find-none (has_number n) xs none)))
