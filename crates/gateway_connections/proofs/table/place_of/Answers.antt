-- The search finds the place of the number, if it stands anywhere.
use Rattle.std.proofs.Common.{length, ltb, ltb-true, ltb-false, rules, sym, ◌∙◌, true, false}
use Rattle.std.proofs.lemmas.List.Sorted.{IsPartitionedBy-ltb, IsPartitionPoint-from_clause}
use Rattle.gateway_connections.specs.declared.row.Row.{Row}
use Rattle.gateway_connections.specs.Rows.{number_in}
use Rattle.gateway_connections.proofs.Placing.{flag-at, number-at, closed-none}
use Rattle.gateway_connections.proofs.Searching.{non-decreasing, none-open, none-past, none-there}
use Rattle.gateway_connections.proofs.table.place_of.Goals.{else-number-via-then-number+else-not-row, else-number-via-else-number}
use Rattle.gateway_connections.proofs.table.place_of.Goals as goal

pub returns-in_err-row-clause-none : goal.returns-in_err-row-clause-none
returns-in_err-row-clause-none c =
    let rows = c.args.rows.now in
    let split = IsPartitionPoint-from_clause (λ (r : Row). ltb (number_in r) c.args.number) rows c.partition_point-place.result c.partition_point-place.ensures.partitioned
    (IsPartitionedBy-ltb number_in rows c.args.number (non-decreasing rows c.requires)) (λ a r f' called. search rules) in
    λ none. none-open rows c.args.number
    (none-past rows c.args.number c.partition_point-place.result split (ltb-false c.partition_point-place.result (length rows) (sym c.in_err-row.ensures.lookup.0)))

pub returns-then-not-row-clause-number : goal.returns-then-not-row-clause-number
returns-then-not-row-clause-number c =
    let rows = c.args.rows.now in
    let at = c.in_ok-row.ensures.lookup in
    number-at rows c.partition_point-place.result c.args.number c.in_ok-row.row.now (ltb-true c.partition_point-place.result (length rows) (sym at.0)) at.1 (sym c.number.ensures ∙ c.if-number.true)

pub returns-then-not-row-clause-stays : goal.returns-then-not-row-clause-stays
returns-then-not-row-clause-stays c =
    let rows = c.args.rows.now in
    let at = c.in_ok-row.ensures.lookup in
    flag-at (λ (r : Row). r.closed) rows c.partition_point-place.result c.in_ok-row.row.now false (ltb-true c.partition_point-place.result (length rows) (sym at.0)) at.1 c.if-not-row.true

pub returns-else-number-clause-none : goal.returns-else-number-clause-none
returns-else-number-clause-none c =
    let rows = c.args.rows.now in
    let place = c.partition_point-place.result in
    let at = c.in_ok-row.ensures.lookup in
    let below = ltb-true place (length rows) (sym at.0) in
    let split = IsPartitionPoint-from_clause (λ (r : Row). ltb (number_in r) c.args.number) rows place c.partition_point-place.ensures.partitioned
    (IsPartitionedBy-ltb number_in rows c.args.number (non-decreasing rows c.requires)) (λ a r f' called. search rules) in
    λ none. elim c.else-number.branch [
      | else-number-via-then-number+else-not-row w ↦
          closed-none rows place c.args.number c.requires (number-at rows place c.args.number c.in_ok-row.row.now below at.1 (sym c.number.ensures ∙ w.if-number.true))
          (flag-at (λ (r : Row). r.closed) rows place c.in_ok-row.row.now true below at.1 w.if-not-row.false)
      | else-number-via-else-number w ↦
          none-open rows c.args.number (none-there rows c.args.number place c.in_ok-row.row.now c.requires split below at.1 (λ same. w.if-number.false (c.number.ensures ∙ same)))
    ]
