use Rattle.std.proofs.Common.{◌≡◌, [], take}
use Rattle.journal_copies.specs.Tracing.{Awaits}
use Rattle.journal_copies.proofs.Replied.{told_from}
use Rattle.journal_copies.proofs.traces.Traces.of.Given as goal

abbrev pub invariant-each : goal.invariant-each
invariant-each g l = record {
  awaits : Awaits l.unanswered.sendings (take l.number l.journal.entries);
  told : l.replied.items ≡ told_from [] (take l.number l.journal.entries);
}
