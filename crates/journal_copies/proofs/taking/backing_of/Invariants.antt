use Rattle.std.proofs.Common.{◌≡◌, List, drop}
use Rattle.journal_book.specs.Entries.{Written}
use Rattle.exchange_model.specs.Backing.{backing, replies_backing}
use Rattle.journal_copies.specs.Tracing.{AreTraced}
use Rattle.journal_copies.proofs.Backs.{behind}
use Rattle.journal_copies.proofs.taking.backing_of.Given as goal

abbrev pub invariant-each : goal.invariant-each
invariant-each l =
    (ws : List Written) → AreTraced ws l.traces.replied.items
    → behind l.numbers.items (replies_backing ws (drop l.reply-index l.stored.list)) ≡ backing ws l.stored
