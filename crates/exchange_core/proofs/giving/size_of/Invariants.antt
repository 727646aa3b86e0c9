use Rattle.std.proofs.Common.{◌≡◌, map, take}
use Rattle.std.specs.Prelude.{sum_by}
use Rattle.ask_model.specs.Sizes.{capped}
use Rattle.journal_book.specs.Entries.{entry_size}
use Rattle.journal_book.specs.Views.{item_of}
use Rattle.exchange_core.proofs.giving.size_of.Given as goal

abbrev pub invariant-each : goal.invariant-each
invariant-each g l = l.bytes ≡ capped (sum_by entry_size (map item_of (take l.entry-index l.segment)))
