use Rattle.std.proofs.Common.{◌≡◌, ◌++◌, List, length, map, take}
use Rattle.std.specs.Prelude.{filter}
use Rattle.journal_book.specs.Entries.{Written}
use Rattle.journal_book.specs.Journals.{is_of}
use Rattle.journal_book.specs.Keeping.{AreOf, numbers_in}
use Rattle.journal_book.specs.Views.{item_of}
use Rattle.journal_book.proofs.kept.copy_named.Given as goal

abbrev pub invariant-each : goal.invariant-each
invariant-each g l = record {
  numbers : numbers_in l.copies.items ≡ filter (is_of l.first (length l.segment)) (take l.number-index l.named);
  entries : (ws : List Written) → length ws ≡ l.first → AreOf (ws ++ map item_of l.segment) l.copies.items;
}
