use Rattle.std.proofs.Common.{length, ltb-true, ltb-false, rules, sym}
use Rattle.std.proofs.lemmas.Bool.{eq-eqb, ne_eqb}
use Rattle.std.proofs.lemmas.List.Sorted.{IsPartitionPoint-from_clause}
use Rattle.exchange_table.specs.declared.marks.Mark.{Mark}
use Rattle.exchange_table.specs.Groups.{is_before}
use Rattle.exchange_table.specs.Marks.{digest_in, is_mark_of, opening_marked}
use Rattle.exchange_table.proofs.Marking.{mark-tells}
use Rattle.exchange_table.proofs.Seeking.{none-beyond, none-there, only-there, parted}
use Rattle.exchange_table.proofs.marks.mark_place.Goals as goal

pub returns-in_err-mark-clause-none : goal.returns-in_err-mark-clause-none
returns-in_err-mark-clause-none c =
    let xs = c.args.marks.now in
    let d = c.args.digest in
    let o = c.args.opening in
    let place = c.partition_point-place.result in
    let split = IsPartitionPoint-from_clause (λ (m : Mark). is_before digest_in opening_marked d o m) xs place c.partition_point-place.ensures.partitioned
    (parted digest_in opening_marked d o xs c.requires.order c.requires.openings) (λ a r f' called. search rules) in
    λ none. none-beyond digest_in opening_marked d o (is_mark_of o) (mark-tells o) xs place c.requires.order c.requires.openings c.requires.there split (ltb-false place (length xs) (sym c.in_err-mark.ensures.lookup.0))

pub returns-then-mark-opening-clause-some : goal.returns-then-mark-opening-clause-some
returns-then-mark-opening-clause-some c =
    let xs = c.args.marks.now in
    let o = c.args.opening in
    let place = c.partition_point-place.result in
    let at = c.in_ok-mark.ensures.lookup in
    only-there digest_in opening_marked c.args.digest o (is_mark_of o) (mark-tells o) xs place c.requires.order c.requires.openings c.requires.there c.in_ok-mark.mark.now
    (ltb-true place (length xs) (sym at.0)) at.1 (eq-eqb _ _ c.if-mark-opening.true)

pub returns-else-mark-opening-clause-none : goal.returns-else-mark-opening-clause-none
returns-else-mark-opening-clause-none c =
    let xs = c.args.marks.now in
    let d = c.args.digest in
    let o = c.args.opening in
    let place = c.partition_point-place.result in
    let at = c.in_ok-mark.ensures.lookup in
    let split = IsPartitionPoint-from_clause (λ (m : Mark). is_before digest_in opening_marked d o m) xs place c.partition_point-place.ensures.partitioned
    (parted digest_in opening_marked d o xs c.requires.order c.requires.openings) (λ a r f' called. search rules) in
    λ none. none-there digest_in opening_marked d o (is_mark_of o) (mark-tells o) xs place c.requires.order c.requires.openings c.requires.there c.in_ok-mark.mark.now
    split (ltb-true place (length xs) (sym at.0)) at.1 (ne_eqb _ _ c.if-mark-opening.false)
