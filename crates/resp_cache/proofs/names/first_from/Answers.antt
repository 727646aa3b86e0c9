use Rattle.std.proofs.Common.{ltb, rules}
use Rattle.std.proofs.lemmas.List.Sorted.{IsPartitionedBy-ltb, IsPartitionPoint-from_clause}
use Rattle.resp_cache.specs.Names.{rank_in}
use Rattle.resp_cache.specs.declared.names.Named.{Named}
use Rattle.resp_cache.proofs.Naming.{ascends, first-is}
use Rattle.resp_cache.proofs.names.first_from.Goals as goal

pub returns : goal.returns
returns c =
    let xs = c.args.names.now in
    let place = c.partition_point.result in
    first-is c.args.rank xs place c.partition_point.ensures.bound
    (IsPartitionPoint-from_clause (λ (n : Named). ltb n.rank c.args.rank) xs place c.partition_point.ensures.partitioned
    (IsPartitionedBy-ltb rank_in xs c.args.rank (ascends rank_in xs c.requires)) (λ a r f' called. search rules))
