use Rattle.std.proofs.Common.{sym, ◌∙◌}
use Rattle.exchange_table.specs.Marks.{digest_in}
use Rattle.exchange_table.proofs.Seeking.{run-none, run-some}
use Rattle.exchange_table.proofs.marks.run_of.Goals as goal

pub returns-in-Some : goal.returns-in-Some
returns-in-Some c = (run-some digest_in c.args.digest c.args.marks.now c.in-Some.end c.requires.order c.requires.first (sym c.first_beside.ensures ∙ c.in-Some.is)).run

pub returns-in-None : goal.returns-in-None
returns-in-None c = run-none digest_in c.args.digest c.args.marks.now c.requires.order c.requires.first (sym c.first_beside.ensures ∙ c.in-None.is)
