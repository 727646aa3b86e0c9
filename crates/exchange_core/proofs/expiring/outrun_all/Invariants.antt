use Rattle.std.proofs.Common.{◌≡◌, take}
use Rattle.exchange_model.specs.Matters.{left_by}
use Rattle.exchange_core.proofs.expiring.outrun_all.Given as goal

abbrev pub invariant-each : goal.invariant-each
invariant-each g l = l.still.exchanges
    ≡ left_by l.journal.entries (take l.e-index l.over) l.initial.still.exchanges
