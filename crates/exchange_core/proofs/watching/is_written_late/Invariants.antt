use Rattle.std.proofs.Common.{◌≡◌, drop}
use Rattle.exchange_model.specs.Hearing.{is_written_late}
use Rattle.exchange_core.proofs.watching.is_written_late.Given as goal

abbrev pub invariant-each : goal.invariant-each
invariant-each g l = is_written_late l.journal.entries (drop l.ended-index l.over) l.watch
    ≡ is_written_late l.journal.entries l.over l.watch
