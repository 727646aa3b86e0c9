-- The asks of those who wait for an exchange.
use Rattle.std.specs.Prelude.{◌≡◌, ℕ, List, Some, slice_get}
use Rattle.ask_model.specs.Requests.{CoapRequest, Requests}
use Rattle.ask_model.specs.Views.{Ask}
use Rattle.journal_book.specs.Entries.{Asks, Written}
use Rattle.exchange_model.specs.declared.kept.Reader.{Reader}
use Rattle.exchange_core.specs.Values.{written}

-- The entry with this number is an ask.
pub record IsAskIn (h : List Written) (k : ℕ) : Type 0 where
  pub moment : ℕ
  pub conn : ℕ
  pub ask : Ask
  pub stands : slice_get h k ≡ Some (written moment (Asks conn ask))

-- The reader's connection asked for this request.
pub record IsAskedIn (h : List Written) (r : Reader) : Type 0 where
  pub moment : ℕ
  pub ask : Ask
  pub request : CoapRequest
  pub stands : slice_get h r.ask ≡ Some (written moment (Asks r.conn ask))
  pub sense : ask.sense ≡ Requests request
