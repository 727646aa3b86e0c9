use Rattle.std.proofs.Common.{◌≡◌, ◌++◌, ◌+◌, ◌≤◌, length, map, true}
use Rattle.std.specs.VecDeque.{deque_len}
use Rattle.journal_book.specs.Views.{item_of}
use Rattle.exchange_model.specs.Growing.{conns_with}
use Rattle.exchange_table.specs.Places.{RiseBy}
use Rattle.exchange_table.specs.Readers.{ask_in}
use Rattle.exchange_core.specs.Drafts.{AllKeep}
use Rattle.exchange_core.specs.Places.{id_of}
use Rattle.exchange_core.specs.States.{readers_with}
use Rattle.exchange_model.specs.Memory.{most_entries}
use Rattle.exchange_core.proofs.pouring.add_all.Given as goal

abbrev pub invariant-each : goal.invariant-each
invariant-each g l = record {
  entries : l.journal.entries ++ map item_of l.entries.items ≡ l.initial.journal.entries ++ map item_of l.initial.entries.items;
  given : l.journal.given ≡ l.initial.journal.given;
  kept : l.journal.kept ≡ l.initial.journal.kept;
  conns : conns_with l.conns.items (length l.journal.entries) (map item_of l.entries.items)
      ≡ conns_with l.initial.conns.items (length l.initial.journal.entries) (map item_of l.initial.entries.items);
  readers : readers_with l.readers.items (map item_of l.entries.items)
      ≡ readers_with l.initial.readers.items (map item_of l.initial.entries.items);
  room : l.journal.room + deque_len l.initial.entries ≡ l.initial.journal.room + deque_len l.entries;
  fits : deque_len l.entries ≤ l.journal.room;
  few : length l.journal.entries + deque_len l.entries ≤ most_entries;
  keep : AllKeep (map item_of l.entries.items);
  conns_rise : RiseBy id_of l.conns.items;
  readers_rise : RiseBy ask_in l.readers.items;
  place : l.initial.readers.room ≡ true → l.readers.room ≡ true;
}

abbrev pub decreases-each : goal.decreases-each
decreases-each g l = deque_len l.entries
