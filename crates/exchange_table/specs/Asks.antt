-- Exchanges whose asks can be read in a journal of which so many entries were given out, and these
-- kept.
use Rattle.std.specs.Prelude.{ℕ, List}
use Rattle.journal_book.specs.Journals.{IsHere}
use Rattle.exchange_model.specs.declared.kept.Exchange.{Exchange}

abbrev pub IsAskedHere : ℕ → List ℕ → Exchange → Type 0
IsAskedHere given kept e = IsHere given kept e.ask
