use Rattle.std.proofs.Common.{length, ltb, ltb-true, ltb-false, rules, sym}
use Rattle.std.proofs.lemmas.Bool.{eq-eqb, ne_eqb}
use Rattle.std.proofs.lemmas.List.Sorted.{IsPartitionedBy-ltb, IsPartitionPoint-from_clause}
use Rattle.exchange_model.specs.declared.kept.Conn.{Conn}
use Rattle.exchange_core.specs.Places.{id_of, has_id}
use Rattle.exchange_table.proofs.CallerLemmas.{non-decreasing, none-past, none-there, only-at}
use Rattle.exchange_core.proofs.Ordered.{id-tells}
use Rattle.exchange_core.proofs.places.conn_place.Goals as goal

pub returns-in_err-conn-clause-none : goal.returns-in_err-conn-clause-none
returns-in_err-conn-clause-none c =
    let xs = c.args.conns.now in
    let place = c.partition_point-place.result in
    let split = IsPartitionPoint-from_clause (λ (x : Conn). ltb x.id c.args.id) xs place c.partition_point-place.ensures.partitioned
    (IsPartitionedBy-ltb id_of xs c.args.id (non-decreasing id_of xs c.requires)) (λ a r f' called. search rules) in
    λ none. none-past id_of c.args.id (has_id c.args.id) xs place (id-tells c.args.id) split (ltb-false place (length xs) (sym c.in_err-conn.ensures.lookup.0))

pub returns-then-conn-id-clause-some : goal.returns-then-conn-id-clause-some
returns-then-conn-id-clause-some c =
    let xs = c.args.conns.now in
    let place = c.partition_point-place.result in
    let at = c.in_ok-conn.ensures.lookup in
    only-at id_of c.args.id (has_id c.args.id) xs place c.in_ok-conn.conn.now (id-tells c.args.id) c.requires
    (ltb-true place (length xs) (sym at.0)) at.1 (eq-eqb _ _ c.if-conn-id.true)

pub returns-else-conn-id-clause-none : goal.returns-else-conn-id-clause-none
returns-else-conn-id-clause-none c =
    let xs = c.args.conns.now in
    let place = c.partition_point-place.result in
    let at = c.in_ok-conn.ensures.lookup in
    let below = ltb-true place (length xs) (sym at.0) in
    let split = IsPartitionPoint-from_clause (λ (x : Conn). ltb x.id c.args.id) xs place c.partition_point-place.ensures.partitioned
    (IsPartitionedBy-ltb id_of xs c.args.id (non-decreasing id_of xs c.requires)) (λ a r f' called. search rules) in
    λ none. none-there id_of c.args.id (has_id c.args.id) xs place c.in_ok-conn.conn.now (id-tells c.args.id) c.requires split below at.1
    (ne_eqb _ _ c.if-conn-id.false)
