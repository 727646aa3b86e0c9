use Rattle.std.proofs.Common.{◌≡◌, drop}
use Rattle.observe_share.specs.Watches.{without}
use Rattle.exchange_model.specs.Hearing.{is_written_late}
use Rattle.exchange_core.proofs.watching.drop_unwatched.Given as goal

abbrev pub invariant-each : goal.invariant-each
invariant-each g l = without (is_written_late l.journal.entries (drop l.ended-index l.over)) l.watches.standing
    ≡ without (is_written_late l.journal.entries l.over) l.initial.watches.standing
