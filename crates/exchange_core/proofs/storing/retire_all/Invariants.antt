use Rattle.std.proofs.Common.{◌≡◌, drop}
use Rattle.exchange_model.specs.Hearing.{retired}
use Rattle.exchange_core.proofs.storing.retire_all.Given as goal

abbrev pub invariant-each : goal.invariant-each
invariant-each g l = retired l.journal.entries (drop l.ended-index l.over) l.store.pairs
    ≡ retired l.journal.entries l.over l.initial.store.pairs
