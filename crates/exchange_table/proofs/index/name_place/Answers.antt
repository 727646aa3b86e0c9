use Rattle.std.proofs.Common.{ℕ, length, ltb, ltb-true, ltb-false, rules, sym}
use Rattle.std.proofs.lemmas.Bool.{eq-eqb, eqb-true, ne_eqb}
use Rattle.std.proofs.lemmas.List.Sorted.{IsPartitionedBy-ltb, IsPartitionPoint-from_clause}
use Rattle.exchange_table.specs.declared.index.Named.{Named}
use Rattle.exchange_table.specs.Tables.{number_in, has_number}
use Rattle.exchange_table.proofs.Standing.{Tells, non-decreasing, none-past, none-there, only-at}
use Rattle.exchange_table.proofs.index.name_place.Goals as goal

tells : (n : ℕ) → Tells number_in n (has_number n)
tells n x e = eqb-true (number_in x) n e

pub returns-in_err-name-clause-none : goal.returns-in_err-name-clause-none
returns-in_err-name-clause-none c =
    let xs = c.args.names.now in
    let place = c.partition_point-place.result in
    let split = IsPartitionPoint-from_clause (λ (x : Named). ltb (number_in x) c.args.number) xs place c.partition_point-place.ensures.partitioned
    (IsPartitionedBy-ltb number_in xs c.args.number (non-decreasing number_in xs c.requires)) (λ a r f' called. search rules) in
    λ none. none-past number_in c.args.number (has_number c.args.number) xs place (tells c.args.number) split (ltb-false place (length xs) (sym c.in_err-name.ensures.lookup.0))

pub returns-then-name-number-clause-some : goal.returns-then-name-number-clause-some
returns-then-name-number-clause-some c =
    let xs = c.args.names.now in
    let place = c.partition_point-place.result in
    let at = c.in_ok-name.ensures.lookup in
    only-at number_in c.args.number (has_number c.args.number) xs place c.in_ok-name.name.now (tells c.args.number) c.requires
    (ltb-true place (length xs) (sym at.0)) at.1 (eq-eqb _ _ c.if-name-number.true)

pub returns-else-name-number-clause-none : goal.returns-else-name-number-clause-none
returns-else-name-number-clause-none c =
    let xs = c.args.names.now in
    let place = c.partition_point-place.result in
    let at = c.in_ok-name.ensures.lookup in
    let below = ltb-true place (length xs) (sym at.0) in
    let split = IsPartitionPoint-from_clause (λ (x : Named). ltb (number_in x) c.args.number) xs place c.partition_point-place.ensures.partitioned
    (IsPartitionedBy-ltb number_in xs c.args.number (non-decreasing number_in xs c.requires)) (λ a r f' called. search rules) in
    λ none. none-there number_in c.args.number (has_number c.args.number) xs place c.in_ok-name.name.now (tells c.args.number) c.requires split below at.1
    (ne_eqb _ _ c.if-name-number.false)
