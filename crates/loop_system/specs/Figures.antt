-- How much the loop has of everything.
use Rattle.std.specs.Prelude.{◌≡◌, ◌-◌, drop, length, count_by, sum_by}
use Rattle.journal_book.specs.Entries.{entry_size}
use Rattle.exchange_model.specs.Room.{has_asked}
use Rattle.exchange_model.specs.State.{State}
use Rattle.gateway_window.specs.declared.figures.Figures.{Figures}

-- Each figure counts what its name says of what a core keeps; of the journal, what is in memory.
pub record AreOf (f : Figures) (S : State) : Type 0 where
  pub connections : f.connections ≡ length S.conns
  pub asking : f.asking ≡ count_by has_asked S.conns
  pub entries : f.entries ≡ length S.entries - S.given
  pub bytes : f.bytes ≡ sum_by entry_size (drop S.given S.entries)
  pub stored : f.stored ≡ length S.store
  pub exchanges : f.exchanges.items ≡ S.exchanges
