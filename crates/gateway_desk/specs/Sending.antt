-- Which datagrams wait to be sent.
use Rattle.std.specs.Prelude.{◌≡◌, List, ◌++◌}
use Rattle.journal_book.specs.Entries.{Written}
use Rattle.exchange_core.specs.Values.{Outgoing, sent_in}

-- They are the last of those that the entries send, in order: all before them were taken.
pub record AreUnsent (h : List Written) (unsent : List Outgoing) : Type 0 where
  pub taken : List Outgoing
  pub all : sent_in h ≡ taken ++ unsent
