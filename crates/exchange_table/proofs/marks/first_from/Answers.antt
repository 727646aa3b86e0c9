use Rattle.std.proofs.Common.{ltb, rules}
use Rattle.std.proofs.lemmas.List.Sorted.{IsPartitionedBy-ltb, IsPartitionPoint-from_clause}
use Rattle.exchange_table.specs.declared.marks.Mark.{Mark}
use Rattle.exchange_table.specs.Marks.{digest_in}
use Rattle.exchange_table.proofs.Grouping.{ascends, first-is}
use Rattle.exchange_table.proofs.marks.first_from.Goals as goal

pub returns : goal.returns
returns c =
    let xs = c.args.marks.now in
    let place = c.partition_point.result in
    first-is digest_in c.args.digest xs place c.partition_point.ensures.bound
    (IsPartitionPoint-from_clause (λ (m : Mark). ltb m.digest c.args.digest) xs place c.partition_point.ensures.partitioned
    (IsPartitionedBy-ltb digest_in xs c.args.digest (ascends digest_in xs c.requires)) (λ a r f' called. search rules))
