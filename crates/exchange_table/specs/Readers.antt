-- Who waits for the open exchanges.
use Rattle.std.specs.Prelude.{ℕ, Bool, ◌==◌, List}
use Rattle.exchange_model.specs.declared.kept.Reader.{Reader}

abbrev pub ask_in : Reader → ℕ
ask_in r = r.ask

abbrev pub has_ask : ℕ → Reader → Bool
has_ask k r = r.ask == k

abbrev pub opening_read : Reader → ℕ
opening_read r = r.opening

-- it waits for the exchange that the entry with this number opened
abbrev pub reads : ℕ → Reader → Bool
reads o r = r.opening == o

-- it waits on this connection
abbrev pub is_on : ℕ → Reader → Bool
is_on c r = r.conn == c

-- who waits, and whether one more can be noted without memory
pub record ReadersValue : Type 0 where
  pub items : List Reader
  pub room : Bool
