use Rattle.std.proofs.Common.{◌≡◌, ℕ, ◌++◌, drop, map}
use Rattle.history_laws.specs.Progress.{Ending}
use Rattle.exchange_progress.specs.Coming.{IsEnded}
use Rattle.exchange_core.specs.Matters.{telling_for}
use Rattle.exchange_core.proofs.ending.readers_told.Given as goal

abbrev pub invariant-each : goal.invariant-each
invariant-each l = (n : ℕ) (how : Ending) → IsEnded n l.ended how
    → l.told.items ++ map (telling_for how n l.exchange.sending) (drop l.reader-index l.waiting)
    ≡ map (telling_for how n l.exchange.sending) l.waiting
