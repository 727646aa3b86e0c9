use Rattle.std.proofs.Common.{◌∙◌}
use Rattle.exchange_table.specs.Groups.{IsFirstFrom}
use Rattle.exchange_table.specs.Marks.{digest_in}
use Rattle.exchange_table.proofs.Seeking.{ascend-rest, in-rest, rest-from}
use Rattle.exchange_table.proofs.marks.marked.Goals as goal

pub run_of-requires-clause-order : goal.run_of-requires-clause-order
run_of-requires-clause-order c = ascend-rest digest_in c.args.digest c.args.marks.now c.first_from-first.result c.requires

pub run_of-requires-clause-first : goal.run_of-requires-clause-first
run_of-requires-clause-first c =
    let first : IsFirstFrom digest_in c.args.digest c.args.marks.now c.first_from-first.result = rw (c.from.ensures) at c.first_from-first.ensures in
    rest-from digest_in c.args.digest c.args.marks.now c.first_from-first.result first

pub returns : goal.returns
returns c =
    let first : IsFirstFrom digest_in c.args.digest c.args.marks.now c.first_from-first.result = rw (c.from.ensures) at c.first_from-first.ensures in
    c.run_of.ensures ∙ in-rest digest_in c.args.digest c.args.marks.now c.first_from-first.result first
