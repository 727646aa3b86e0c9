use Rattle.std.proofs.Common.{◌∙◌}
use Rattle.exchange_table.specs.Groups.{IsFirstFrom}
use Rattle.exchange_table.specs.Readers.{opening_read}
use Rattle.exchange_table.proofs.Seeking.{ascend-rest, in-rest, rest-from}
use Rattle.exchange_table.proofs.groups.group_of.Goals as goal

pub run_of-requires-clause-order : goal.run_of-requires-clause-order
run_of-requires-clause-order c = ascend-rest opening_read c.args.opening c.args.groups.now c.first_from-first.result c.requires

pub run_of-requires-clause-first : goal.run_of-requires-clause-first
run_of-requires-clause-first c =
    let first : IsFirstFrom opening_read c.args.opening c.args.groups.now c.first_from-first.result = rw (c.from.ensures) at c.first_from-first.ensures in
    rest-from opening_read c.args.opening c.args.groups.now c.first_from-first.result first

pub returns : goal.returns
returns c =
    let first : IsFirstFrom opening_read c.args.opening c.args.groups.now c.first_from-first.result = rw (c.from.ensures) at c.first_from-first.ensures in
    c.run_of.ensures ∙ in-rest opening_read c.args.opening c.args.groups.now c.first_from-first.result first
