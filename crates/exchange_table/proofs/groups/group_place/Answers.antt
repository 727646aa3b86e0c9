use Rattle.std.proofs.Common.{length, ltb-true, ltb-false, rules, sym}
use Rattle.std.proofs.lemmas.Bool.{eq-eqb, ne_eqb}
use Rattle.std.proofs.lemmas.List.Sorted.{IsPartitionPoint-from_clause}
use Rattle.exchange_model.specs.declared.kept.Reader.{Reader}
use Rattle.exchange_table.specs.Groups.{is_before}
use Rattle.exchange_table.specs.Readers.{ask_in, has_ask, opening_read}
use Rattle.exchange_table.proofs.Grouping.{ask-tells}
use Rattle.exchange_table.proofs.Seeking.{none-beyond, none-there, only-there, parted}
use Rattle.exchange_table.proofs.groups.group_place.Goals as goal

pub returns-in_err-reader-clause-none : goal.returns-in_err-reader-clause-none
returns-in_err-reader-clause-none c =
    let xs = c.args.groups.now in
    let o = c.args.opening in
    let k = c.args.ask in
    let place = c.partition_point-place.result in
    let split = IsPartitionPoint-from_clause (λ (r : Reader). is_before opening_read ask_in o k r) xs place c.partition_point-place.ensures.partitioned
    (parted opening_read ask_in o k xs c.requires.order c.requires.asks) (λ a r f' called. search rules) in
    λ none. none-beyond opening_read ask_in o k (has_ask k) (ask-tells k) xs place c.requires.order c.requires.asks c.requires.there split (ltb-false place (length xs) (sym c.in_err-reader.ensures.lookup.0))

pub returns-then-reader-ask-clause-some : goal.returns-then-reader-ask-clause-some
returns-then-reader-ask-clause-some c =
    let xs = c.args.groups.now in
    let k = c.args.ask in
    let place = c.partition_point-place.result in
    let at = c.in_ok-reader.ensures.lookup in
    only-there opening_read ask_in c.args.opening k (has_ask k) (ask-tells k) xs place c.requires.order c.requires.asks c.requires.there c.in_ok-reader.reader.now
    (ltb-true place (length xs) (sym at.0)) at.1 (eq-eqb _ _ c.if-reader-ask.true)

pub returns-else-reader-ask-clause-none : goal.returns-else-reader-ask-clause-none
returns-else-reader-ask-clause-none c =
    let xs = c.args.groups.now in
    let o = c.args.opening in
    let k = c.args.ask in
    let place = c.partition_point-place.result in
    let at = c.in_ok-reader.ensures.lookup in
    let split = IsPartitionPoint-from_clause (λ (r : Reader). is_before opening_read ask_in o k r) xs place c.partition_point-place.ensures.partitioned
    (parted opening_read ask_in o k xs c.requires.order c.requires.asks) (λ a r f' called. search rules) in
    λ none. none-there opening_read ask_in o k (has_ask k) (ask-tells k) xs place c.requires.order c.requires.asks c.requires.there c.in_ok-reader.reader.now
    split (ltb-true place (length xs) (sym at.0)) at.1 (ne_eqb _ _ c.if-reader-ask.false)
