use Rattle.std.proofs.Common.{[], sym, ap, ◌∙◌}
use Rattle.std.specs.Prelude.{option_and_then, option_map}
use Rattle.exchange_core.proofs.Watched.{written-none, written-nothing}
use Rattle.exchange_core.proofs.ends.ends_apart.Goals as goal

pub returns-in_default-clause-writes : goal.returns-in_default-clause-writes
returns-in_default-clause-writes g c = λ yes.
    sym (written-none c.args.s.now.journal.entries c.args.exchange.now.ask [] c.args.s.now.watches.standing
    (sym (ap (option_and_then _) c.in_default.is) ∙ c.asked.ensures))

pub returns-in-None-clause-writes : goal.returns-in-None-clause-writes
returns-in-None-clause-writes g c = λ yes.
    sym (written-nothing c.args.s.now.journal.entries c.args.exchange.now.ask c.in-Some.mapped.now.sense [] c.args.s.now.watches.standing
    (sym (ap (option_and_then _) c.in-Some.is) ∙ c.asked.ensures)
    (sym (ap (option_map _) c.in-None.is) ∙ c.writing.ensures))
