use Rattle.std.proofs.Common.{sym, ap, ◌∙◌}
use Rattle.std.specs.Prelude.{option_and_then, option_map}
use Rattle.exchange_model.specs.Matters.{asked_in}
use Rattle.exchange_model.specs.Watching.{is_written_by}
use Rattle.exchange_core.proofs.Empty.{all-stay}
use Rattle.exchange_core.proofs.Watched.{writes-none, writes-nothing}
use Rattle.exchange_core.proofs.watching.retire.Goals as goal

pub returns-then-is_empty : goal.returns-then-is_empty
returns-then-is_empty g c =
    all-stay (is_written_by (asked_in c.args.journal.now.entries c.args.ended.now.ask)) c.args.watches.now.standing
    (sym c.is_empty.ensures ∙ c.if-is_empty.true)

pub returns-in_default : goal.returns-in_default
returns-in_default g c =
    writes-none c.args.journal.now.entries c.args.ended.now.ask c.args.watches.now.standing
    (sym (ap (option_and_then _) c.in_default.is) ∙ c.asked.ensures)

pub returns-in_default-writing : goal.returns-in_default-writing
returns-in_default-writing g c =
    writes-nothing c.args.journal.now.entries c.args.ended.now.ask c.in-Some.mapped.now.sense c.args.watches.now.standing
    (sym (ap (option_and_then _) c.in-Some.is) ∙ c.asked.ensures)
    (sym (ap (option_map _) c.in_default-writing.is) ∙ c.writing.ensures)
