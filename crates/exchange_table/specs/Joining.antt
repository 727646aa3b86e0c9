-- Exchanges that an ask joins, and those that read what a notification is of.
use Rattle.std.specs.Prelude.{ℕ, Bool, false, List}
use Rattle.std.specs.List.{find}
use Rattle.std.specs.Option.{option_map_or}
use Rattle.ask_model.specs.Requests.{Sense, Requests, Refuses}
use Rattle.journal_book.specs.Entries.{Written}
use Rattle.exchange_model.specs.declared.kept.Exchange.{Exchange}
use Rattle.cache_key.specs.Keys.{CacheKey}
use Rattle.exchange_model.specs.Calls.{is_joined}
use Rattle.exchange_model.specs.Matters.{is_reading}
use Rattle.exchange_table.specs.declared.marks.Mark.{Mark}
use Rattle.exchange_table.specs.Tables.{is_opened_at}

abbrev pub is_joined_by : List Written → Sense → Exchange → Bool
is_joined_by ws (Requests q) e = is_joined ws q e
is_joined_by ws (Refuses cause status) e = false

-- the same of the one of these that the entry with this number opened
abbrev pub is_joined_at : List Written → Sense → List Exchange → ℕ → Bool
is_joined_at ws sense es o = option_map_or (is_joined_by ws sense) (find (is_opened_at o) es) false

abbrev pub is_joined_marked : List Written → Sense → List Exchange → Mark → Bool
is_joined_marked ws sense es m = is_joined_at ws sense es m.opening

-- the same of one that reads what is under the key
abbrev pub is_reading_at : List Written → CacheKey → List Exchange → ℕ → Bool
is_reading_at ws key es o = option_map_or (is_reading ws key) (find (is_opened_at o) es) false

abbrev pub is_reading_marked : List Written → CacheKey → List Exchange → Mark → Bool
is_reading_marked ws key es m = is_reading_at ws key es m.opening
