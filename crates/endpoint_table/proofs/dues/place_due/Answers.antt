use Rattle.std.proofs.Common.{rules}
use Rattle.std.proofs.lemmas.List.Sorted.{IsPartitionPoint-from_clause}
use Rattle.endpoint_table.specs.declared.dues.Due.{Due}
use Rattle.endpoint_table.specs.Dues.{is_before}
use Rattle.endpoint_table.proofs.TimerSearch.{belongs, parted, stands}
use Rattle.endpoint_table.proofs.dues.place_due.Goals as goal

pub returns-clause-there : goal.returns-clause-there
returns-clause-there c =
    let ds = c.args.dues.now in
    let e = c.args.due.now in
    let i = c.partition_point.result in
    let split = IsPartitionPoint-from_clause (λ (d : Due). is_before d e) ds i
    c.partition_point.ensures.partitioned (parted e ds c.requires) (λ a r f' called. search rules) in
    belongs e ds i split c.partition_point.ensures.bound

pub returns-clause-stands : goal.returns-clause-stands
returns-clause-stands c = λ others is.
    let ds = c.args.dues.now in
    let e = c.args.due.now in
    let i = c.partition_point.result in
    let split = IsPartitionPoint-from_clause (λ (d : Due). is_before d e) ds i
    c.partition_point.ensures.partitioned (parted e ds c.requires) (λ a r f' called. search rules) in
    stands e ds others i split is
