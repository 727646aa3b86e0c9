use Rattle.std.proofs.Common.{◌≡◌, ◌+◌, map, drop}
use Rattle.journal_book.specs.Views.{item_of}
use Rattle.exchange_model.specs.Growing.{conns_with}
use Rattle.exchange_table.specs.Places.{RiseBy}
use Rattle.exchange_core.specs.Drafts.{AllKeep}
use Rattle.exchange_core.specs.Places.{id_of}
use Rattle.exchange_core.proofs.noting.note_all.Given as goal

abbrev pub invariant-each : goal.invariant-each
invariant-each g l = record {
  so_far : conns_with l.conns.items (l.first + l.place) (map item_of (drop l.place l.entries.items))
      ≡ conns_with l.initial.conns.items l.first (map item_of l.entries.items);
  keep : AllKeep (map item_of (drop l.place l.entries.items));
  ordered : RiseBy id_of l.conns.items;
}
