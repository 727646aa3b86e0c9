use Rattle.std.proofs.Common.{ℕ, length, ltb, ltb-true, ltb-false, rules, sym}
use Rattle.std.proofs.lemmas.Bool.{eq-eqb, ne_eqb}
use Rattle.std.proofs.lemmas.List.Sorted.{IsPartitionedBy-ltb, IsPartitionPoint-from_clause}
use Rattle.exchange_table.specs.Fetched.{is_number, itself}
use Rattle.exchange_table.proofs.Owning.{number-tells}
use Rattle.exchange_table.proofs.Standing.{non-decreasing, none-past, none-there, only-at}
use Rattle.exchange_table.proofs.owners.owner_place.Goals as goal

pub returns-in_err-owner-clause-none : goal.returns-in_err-owner-clause-none
returns-in_err-owner-clause-none c =
    let xs = c.args.owners.now in
    let place = c.partition_point-place.result in
    let split = IsPartitionPoint-from_clause (λ (n : ℕ). ltb n c.args.opening) xs place c.partition_point-place.ensures.partitioned
    (IsPartitionedBy-ltb itself xs c.args.opening (non-decreasing itself xs c.requires)) (λ a r f' called. search rules) in
    λ none. none-past itself c.args.opening (is_number c.args.opening) xs place (number-tells c.args.opening) split (ltb-false place (length xs) (sym c.in_err-owner.ensures.lookup.0))

pub returns-then-owner-opening-clause-some : goal.returns-then-owner-opening-clause-some
returns-then-owner-opening-clause-some c =
    let xs = c.args.owners.now in
    let place = c.partition_point-place.result in
    let at = c.in_ok-owner.ensures.lookup in
    only-at itself c.args.opening (is_number c.args.opening) xs place c.in_ok-owner.owner.now (number-tells c.args.opening) c.requires
    (ltb-true place (length xs) (sym at.0)) at.1 (eq-eqb _ _ c.if-owner-opening.true)

pub returns-else-owner-opening-clause-none : goal.returns-else-owner-opening-clause-none
returns-else-owner-opening-clause-none c =
    let xs = c.args.owners.now in
    let place = c.partition_point-place.result in
    let at = c.in_ok-owner.ensures.lookup in
    let below = ltb-true place (length xs) (sym at.0) in
    let split = IsPartitionPoint-from_clause (λ (n : ℕ). ltb n c.args.opening) xs place c.partition_point-place.ensures.partitioned
    (IsPartitionedBy-ltb itself xs c.args.opening (non-decreasing itself xs c.requires)) (λ a r f' called. search rules) in
    λ none. none-there itself c.args.opening (is_number c.args.opening) xs place c.in_ok-owner.owner.now (number-tells c.args.opening) c.requires split below at.1
    (ne_eqb _ _ c.if-owner-opening.false)
