use Rattle.std.proofs.Common.{◌≡◌, Some, length, ltb, ltb-true, ltb-false, rules, slice_get, subst, sym, ℕ, arith}
use Rattle.std.proofs.lemmas.List.Sorted.{IsPartitionedBy-ltb, IsPartitionPoint-from_clause}
use Rattle.journal_book.specs.Keeping.{number_of}
use Rattle.journal_book.specs.Views.{item_of}
use Rattle.journal_book.specs.declared.kept.KeptEntry.{KeptEntry}
use Rattle.journal_book.proofs.Named.{non-decreasing, none-past, none-there, of-at, some-there}
use Rattle.journal_book.proofs.kept.kept_at.Goals as goal

pub returns-in_err-found-clause-none : goal.returns-in_err-found-clause-none
returns-in_err-found-clause-none g c =
    let xs = c.args.kept.now in
    let place = c.partition_point-place.result in
    let split = IsPartitionPoint-from_clause (λ (x : KeptEntry g.row.R.Denot). ltb x.number c.args.number) xs place c.partition_point-place.ensures.partitioned
    (IsPartitionedBy-ltb number_of xs c.args.number (non-decreasing number_of xs c.requires)) (λ a r f' called. search rules) in
    λ none. none-past number_of c.args.number xs place split (ltb-false place (length xs) (sym c.in_err-found.ensures.lookup.0))

pub returns-then-found-number-clause-entry : goal.returns-then-found-number-clause-entry
returns-then-found-number-clause-entry g c =
    let xs = c.args.kept.now in
    let place = c.partition_point-place.result in
    let at = c.in_ok-found.ensures.lookup in
    λ ws h. subst (λ (n : ℕ). slice_get ws n ≡ Some (item_of c.in_ok-found.found.now.entry)) c.if-found-number.true
    (of-at ws xs place c.in_ok-found.found.now h (ltb-true place (length xs) (sym at.0)) at.1)

pub returns-then-found-number-clause-some : goal.returns-then-found-number-clause-some
returns-then-found-number-clause-some g c =
    let xs = c.args.kept.now in
    let place = c.partition_point-place.result in
    let at = c.in_ok-found.ensures.lookup in
    some-there number_of c.args.number xs place c.in_ok-found.found.now (ltb-true place (length xs) (sym at.0)) at.1
    c.if-found-number.true

pub returns-else-found-number-clause-none : goal.returns-else-found-number-clause-none
returns-else-found-number-clause-none g c =
    let xs = c.args.kept.now in
    let place = c.partition_point-place.result in
    let at = c.in_ok-found.ensures.lookup in
    let split = IsPartitionPoint-from_clause (λ (x : KeptEntry g.row.R.Denot). ltb x.number c.args.number) xs place c.partition_point-place.ensures.partitioned
    (IsPartitionedBy-ltb number_of xs c.args.number (non-decreasing number_of xs c.requires)) (λ a r f' called. search rules) in
    λ none. none-there number_of c.args.number xs place c.in_ok-found.found.now c.requires split
    (ltb-true place (length xs) (sym at.0)) (at.4 (omega arith)) c.if-found-number.false
