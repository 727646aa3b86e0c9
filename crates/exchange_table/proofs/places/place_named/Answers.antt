use Rattle.std.proofs.Common.{◌≡◌, ℕ, List, Some, option_map, get_or, refl, sym, ap, ◌∙◌}
use Rattle.exchange_model.specs.Steps.{is_under}
use Rattle.history_laws.specs.Numbering.{token_number}
use Rattle.exchange_table.specs.declared.index.Named.{Named}
use Rattle.exchange_table.specs.Places.{IsOnlyAt}
use Rattle.exchange_table.specs.Tables.{has_number, opening_in, opening_under}
use Rattle.exchange_table.proofs.Indexed.{under-tells, none-opened, only-opened, other-opened}
use Rattle.exchange_table.proofs.Standing.{find-only}
use Rattle.exchange_table.proofs.places.place_named.Goals as goal

named-so : (n : ℕ) (names : List Named) (i : ℕ) (d : Named) → IsOnlyAt (has_number n) names i → Some (get_or names i d).opening ≡ opening_under n names
named-so n names i d only = sym (ap (option_map opening_in) (find-only (has_number n) names i d only))

pub returns-in_err-place-clause-none : goal.returns-in_err-place-clause-none
returns-in_err-place-clause-none c = λ none.
    none-opened (is_under c.args.token.now) _ c.args.rows.now
    (under-tells c.args.rows.now c.args.names.now c.args.token.now _ c.requires.indexed (named-so (token_number c.args.token.now) c.args.names.now c.args.name _ c.requires.named))
    (c.in_err-place.ensures.none refl)

pub returns-then-is_under-clause-some : goal.returns-then-is_under-clause-some
returns-then-is_under-clause-some c =
    only-opened (is_under c.args.token.now) _ c.args.rows.now c.in_ok-place.place c.index-rows-place.result
    (under-tells c.args.rows.now c.args.names.now c.args.token.now _ c.requires.indexed (named-so (token_number c.args.token.now) c.args.names.now c.args.name _ c.requires.named))
    c.in_ok-place.ensures.some
    (ap (is_under c.args.token.now) (sym c.index-rows-place.is) ∙ sym c.if-is_under.ensures)

pub returns-else-is_under-clause-none : goal.returns-else-is_under-clause-none
returns-else-is_under-clause-none c = λ none.
    other-opened (is_under c.args.token.now) _ c.args.rows.now c.in_ok-place.place c.index-rows-place.result
    (under-tells c.args.rows.now c.args.names.now c.args.token.now _ c.requires.indexed (named-so (token_number c.args.token.now) c.args.names.now c.args.name _ c.requires.named))
    c.in_ok-place.ensures.some
    (ap (is_under c.args.token.now) (sym c.index-rows-place.is) ∙ sym c.if-is_under.ensures)
