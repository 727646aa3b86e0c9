use Rattle.std.proofs.Common.{ℕ, length, ltb, ltb-true, ltb-false, rules, sym}
use Rattle.std.proofs.lemmas.Bool.{eq-eqb, eqb-true, ne_eqb}
use Rattle.std.proofs.lemmas.List.Sorted.{IsPartitionedBy-ltb, IsPartitionPoint-from_clause}
use Rattle.exchange_model.specs.declared.kept.Exchange.{Exchange}
use Rattle.exchange_table.specs.Tables.{opening_of, is_opened_at}
use Rattle.exchange_table.proofs.Standing.{Tells, non-decreasing, none-past, none-there, only-at}
use Rattle.exchange_table.proofs.places.opening_place.Goals as goal

tells : (n : ℕ) → Tells opening_of n (is_opened_at n)
tells n x e = eqb-true (opening_of x) n e

pub returns-in_err-exchange-clause-none : goal.returns-in_err-exchange-clause-none
returns-in_err-exchange-clause-none c =
    let xs = c.args.rows.now in
    let place = c.partition_point-place.result in
    let split = IsPartitionPoint-from_clause (λ (x : Exchange). ltb (opening_of x) c.args.opening) xs place c.partition_point-place.ensures.partitioned
    (IsPartitionedBy-ltb opening_of xs c.args.opening (non-decreasing opening_of xs c.requires)) (λ a r f' called. search rules) in
    λ none. none-past opening_of c.args.opening (is_opened_at c.args.opening) xs place (tells c.args.opening) split (ltb-false place (length xs) (sym c.in_err-exchange.ensures.lookup.0))

pub returns-then-exchange-opening-clause-some : goal.returns-then-exchange-opening-clause-some
returns-then-exchange-opening-clause-some c =
    let xs = c.args.rows.now in
    let place = c.partition_point-place.result in
    let at = c.in_ok-exchange.ensures.lookup in
    only-at opening_of c.args.opening (is_opened_at c.args.opening) xs place c.in_ok-exchange.exchange.now (tells c.args.opening) c.requires
    (ltb-true place (length xs) (sym at.0)) at.1 (eq-eqb _ _ c.if-exchange-opening.true)

pub returns-else-exchange-opening-clause-none : goal.returns-else-exchange-opening-clause-none
returns-else-exchange-opening-clause-none c =
    let xs = c.args.rows.now in
    let place = c.partition_point-place.result in
    let at = c.in_ok-exchange.ensures.lookup in
    let below = ltb-true place (length xs) (sym at.0) in
    let split = IsPartitionPoint-from_clause (λ (x : Exchange). ltb (opening_of x) c.args.opening) xs place c.partition_point-place.ensures.partitioned
    (IsPartitionedBy-ltb opening_of xs c.args.opening (non-decreasing opening_of xs c.requires)) (λ a r f' called. search rules) in
    λ none. none-there opening_of c.args.opening (is_opened_at c.args.opening) xs place c.in_ok-exchange.exchange.now (tells c.args.opening) c.requires split below at.1
    (ne_eqb _ _ c.if-exchange-opening.false)
