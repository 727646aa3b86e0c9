use Rattle.std.proofs.Common.{ltb, rules}
use Rattle.std.proofs.lemmas.List.Sorted.{IsPartitionedBy-ltb, IsPartitionPoint-from_clause}
use Rattle.exchange_model.specs.declared.kept.Reader.{Reader}
use Rattle.exchange_table.specs.Readers.{opening_read}
use Rattle.exchange_table.proofs.Grouping.{ascends, first-is}
use Rattle.exchange_table.proofs.groups.first_from.Goals as goal

pub returns : goal.returns
returns c =
    let xs = c.args.groups.now in
    let place = c.partition_point.result in
    first-is opening_read c.args.opening xs place c.partition_point.ensures.bound
    (IsPartitionPoint-from_clause (λ (r : Reader). ltb r.opening c.args.opening) xs place c.partition_point.ensures.partitioned
    (IsPartitionedBy-ltb opening_read xs c.args.opening (ascends opening_read xs c.requires)) (λ a r f' called. search rules))
