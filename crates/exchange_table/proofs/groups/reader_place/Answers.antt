use Rattle.std.proofs.Common.{length, ltb, ltb-true, ltb-false, rules, sym}
use Rattle.std.proofs.lemmas.Bool.{eq-eqb, ne_eqb}
use Rattle.std.proofs.lemmas.List.Sorted.{IsPartitionedBy-ltb, IsPartitionPoint-from_clause}
use Rattle.exchange_model.specs.declared.kept.Reader.{Reader}
use Rattle.exchange_table.specs.Readers.{ask_in, has_ask}
use Rattle.exchange_table.proofs.Standing.{non-decreasing, none-past, none-there, only-at}
use Rattle.exchange_table.proofs.Grouping.{ask-tells}
use Rattle.exchange_table.proofs.groups.reader_place.Goals as goal

pub returns-in_err-reader-clause-none : goal.returns-in_err-reader-clause-none
returns-in_err-reader-clause-none c =
    let xs = c.args.readers.now in
    let place = c.partition_point-place.result in
    let split = IsPartitionPoint-from_clause (λ (x : Reader). ltb x.ask c.args.ask) xs place c.partition_point-place.ensures.partitioned
    (IsPartitionedBy-ltb ask_in xs c.args.ask (non-decreasing ask_in xs c.requires)) (λ a r f' called. search rules) in
    λ none. none-past ask_in c.args.ask (has_ask c.args.ask) xs place (ask-tells c.args.ask) split (ltb-false place (length xs) (sym c.in_err-reader.ensures.lookup.0))

pub returns-then-reader-ask-clause-some : goal.returns-then-reader-ask-clause-some
returns-then-reader-ask-clause-some c =
    let xs = c.args.readers.now in
    let place = c.partition_point-place.result in
    let at = c.in_ok-reader.ensures.lookup in
    only-at ask_in c.args.ask (has_ask c.args.ask) xs place c.in_ok-reader.reader.now (ask-tells c.args.ask) c.requires
    (ltb-true place (length xs) (sym at.0)) at.1 (eq-eqb _ _ c.if-reader-ask.true)

pub returns-else-reader-ask-clause-none : goal.returns-else-reader-ask-clause-none
returns-else-reader-ask-clause-none c =
    let xs = c.args.readers.now in
    let place = c.partition_point-place.result in
    let at = c.in_ok-reader.ensures.lookup in
    let below = ltb-true place (length xs) (sym at.0) in
    let split = IsPartitionPoint-from_clause (λ (x : Reader). ltb x.ask c.args.ask) xs place c.partition_point-place.ensures.partitioned
    (IsPartitionedBy-ltb ask_in xs c.args.ask (non-decreasing ask_in xs c.requires)) (λ a r f' called. search rules) in
    λ none. none-there ask_in c.args.ask (has_ask c.args.ask) xs place c.in_ok-reader.reader.now (ask-tells c.args.ask) c.requires split below at.1
    (ne_eqb _ _ c.if-reader-ask.false)
