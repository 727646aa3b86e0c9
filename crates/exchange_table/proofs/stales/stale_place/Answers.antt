use Rattle.std.proofs.Common.{ℕ, length, ltb, ltb-true, ltb-false, rules, sym}
use Rattle.std.proofs.lemmas.Bool.{eq-eqb, eqb-true, ne_eqb}
use Rattle.std.proofs.lemmas.List.Sorted.{IsPartitionedBy-ltb, IsPartitionPoint-from_clause}
use Rattle.exchange_model.specs.declared.kept.Stale.{Stale}
use Rattle.exchange_model.specs.Matters.{is_stale_of}
use Rattle.exchange_table.specs.Stales.{asked_in}
use Rattle.exchange_table.proofs.Standing.{Tells, non-decreasing, none-past, none-there, only-at}
use Rattle.exchange_table.proofs.stales.stale_place.Goals as goal

tells : (n : ℕ) → Tells asked_in n (is_stale_of n)
tells n x e = eqb-true (asked_in x) n e

pub returns-in_err-stale-clause-none : goal.returns-in_err-stale-clause-none
returns-in_err-stale-clause-none c =
    let xs = c.args.stales.now in
    let place = c.partition_point-place.result in
    let split = IsPartitionPoint-from_clause (λ (x : Stale). ltb (asked_in x) c.args.opening) xs place c.partition_point-place.ensures.partitioned
    (IsPartitionedBy-ltb asked_in xs c.args.opening (non-decreasing asked_in xs c.requires)) (λ a r f' called. search rules) in
    λ none. none-past asked_in c.args.opening (is_stale_of c.args.opening) xs place (tells c.args.opening) split (ltb-false place (length xs) (sym c.in_err-stale.ensures.lookup.0))

pub returns-then-stale-opening-clause-some : goal.returns-then-stale-opening-clause-some
returns-then-stale-opening-clause-some c =
    let xs = c.args.stales.now in
    let place = c.partition_point-place.result in
    let at = c.in_ok-stale.ensures.lookup in
    only-at asked_in c.args.opening (is_stale_of c.args.opening) xs place c.in_ok-stale.stale.now (tells c.args.opening) c.requires
    (ltb-true place (length xs) (sym at.0)) at.1 (eq-eqb _ _ c.if-stale-opening.true)

pub returns-else-stale-opening-clause-none : goal.returns-else-stale-opening-clause-none
returns-else-stale-opening-clause-none c =
    let xs = c.args.stales.now in
    let place = c.partition_point-place.result in
    let at = c.in_ok-stale.ensures.lookup in
    let below = ltb-true place (length xs) (sym at.0) in
    let split = IsPartitionPoint-from_clause (λ (x : Stale). ltb (asked_in x) c.args.opening) xs place c.partition_point-place.ensures.partitioned
    (IsPartitionedBy-ltb asked_in xs c.args.opening (non-decreasing asked_in xs c.requires)) (λ a r f' called. search rules) in
    λ none. none-there asked_in c.args.opening (is_stale_of c.args.opening) xs place c.in_ok-stale.stale.now (tells c.args.opening) c.requires split below at.1
    (ne_eqb _ _ c.if-stale-opening.false)
