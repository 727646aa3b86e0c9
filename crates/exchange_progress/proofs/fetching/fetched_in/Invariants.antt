use Rattle.std.proofs.Common.{◌≡◌, ◌++◌, drop, map}
use Rattle.coap_codec.specs.Spelling.{content}
use Rattle.history_laws.specs.Progress.{messages, numbers}
use Rattle.exchange_model.specs.Matters.{fetched_in}
use Rattle.exchange_progress.proofs.fetching.fetched_in.Given as goal

abbrev pub invariant-each : goal.invariant-each
invariant-each g l =
    (map content l.earlier.messages.items ++ messages (fetched_in l.journal.entries l.opening (drop l.piece-index l.pieces))
    ≡ messages (fetched_in l.journal.entries l.opening l.pieces))
    × (l.earlier.numbers.items ++ numbers (fetched_in l.journal.entries l.opening (drop l.piece-index l.pieces))
    ≡ numbers (fetched_in l.journal.entries l.opening l.pieces))
