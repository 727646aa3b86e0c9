use Rattle.std.proofs.Common.{refl, sym, ap}
use Rattle.std.specs.Prelude.{option_map}
use Rattle.history_laws.specs.Numbering.{token_number}
use Rattle.exchange_table.specs.Tables.{has_number, opening_in}
use Rattle.exchange_table.proofs.Indexed.{under-none}
use Rattle.exchange_table.proofs.Standing.{find-none}
use Rattle.exchange_table.proofs.places.place_under.Goals as goal

pub returns-in_err-name-clause-none : goal.returns-in_err-name-clause-none
returns-in_err-name-clause-none c = λ none.
    under-none c.args.rows.now c.args.names.now c.args.token.now c.requires
    (sym (ap (option_map opening_in) (find-none (has_number (token_number c.args.token.now)) c.args.names.now (rw (c.number_of.ensures) at (c.in_err-name.ensures.none refl)))))
