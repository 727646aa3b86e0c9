use Rattle.std.proofs.Common.{sym, ◌∙◌}
use Rattle.exchange_table.specs.Readers.{opening_read}
use Rattle.exchange_table.proofs.Seeking.{run-none, run-some}
use Rattle.exchange_table.proofs.groups.run_of.Goals as goal

pub returns-in-Some : goal.returns-in-Some
returns-in-Some c = (run-some opening_read c.args.opening c.args.groups.now c.in-Some.end c.requires.order c.requires.first (sym c.first_beside.ensures ∙ c.in-Some.is)).run

pub returns-in-None : goal.returns-in-None
returns-in-None c = run-none opening_read c.args.opening c.args.groups.now c.requires.order c.requires.first (sym c.first_beside.ensures ∙ c.in-None.is)
