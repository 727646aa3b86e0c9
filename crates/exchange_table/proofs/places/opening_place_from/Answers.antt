use Rattle.std.proofs.Common.{ℕ, length, ltb-true, sym}
use Rattle.std.proofs.lemmas.Bool.{eq-eqb, eqb-true}
use Rattle.exchange_table.specs.Tables.{opening_of, is_opened_at}
use Rattle.exchange_table.proofs.Standing.{Tells, only-at}
use Rattle.exchange_table.proofs.places.opening_place_from.Goals as goal

tells : (n : ℕ) → Tells opening_of n (is_opened_at n)
tells n x e = eqb-true (opening_of x) n e

pub returns-then-exchange-opening-clause-some : goal.returns-then-exchange-opening-clause-some
returns-then-exchange-opening-clause-some c =
    let xs = c.args.rows.now in
    let at = c.in-Some.ensures.lookup in
    only-at opening_of c.args.opening (is_opened_at c.args.opening) xs c.args.first c.in-Some.exchange.now (tells c.args.opening) c.requires
    (ltb-true c.args.first (length xs) (sym at.0)) at.1 (eq-eqb _ _ c.if-exchange-opening.true)
