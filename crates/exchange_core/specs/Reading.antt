-- What is read again of a journal of which so many entries were given out, and these kept: it
-- stands in memory.
use Rattle.std.specs.Prelude.{ℕ, Bool, true, false, List, [], ◌∷◌, ⊤}
use Rattle.journal_book.specs.Entries.{Grounds, Live, Kept, Fault}
use Rattle.journal_book.specs.Journals.{IsHere}
use Rattle.observe_share.specs.declared.registration.Registration.{Registration}
use Rattle.resp_cache.specs.declared.pair.Pair.{Pair}
use Rattle.exchange_model.specs.declared.kept.Exchange.{Exchange}
use Rattle.exchange_model.specs.declared.kept.Reader.{Reader}
use Rattle.exchange_model.specs.Memory.{IsLast}
use Rattle.exchange_table.specs.Asks.{IsAskedHere}
use Rattle.exchange_progress.specs.declared.coming.Coming.{Coming}
use Rattle.exchange_progress.specs.declared.coming.Coming.TheVariants as Comes
use Rattle.exchange_progress.specs.declared.coming.Ended.{Ended}
use Rattle.exchange_progress.specs.declared.coming.Ended.TheVariants as How
use Rattle.exchange_core.specs.declared.ending.Telling.{Telling}
use Rattle.exchange_core.specs.declared.matter.Matter.{Matter}
use Rattle.exchange_core.specs.declared.matter.Matter.TheVariants as M

-- the ask of one who waits; the ask by which something is observed; the last of what a stored
-- response rests on
abbrev pub IsReaderHere : ℕ → List ℕ → Reader → Type 0
IsReaderHere given kept r = IsHere given kept r.ask

abbrev pub IsWatchHere : ℕ → List ℕ → Registration → Type 0
IsWatchHere given kept r = IsHere given kept r.opening

abbrev pub IsPairHere : ℕ → List ℕ → Pair → Type 0
IsPairHere given kept p = IsLast (IsHere given kept) p.stored.list

-- the first of these, if there is one
abbrev pub IsFirst : (ℕ → Type 0) → List ℕ → Type 0
IsFirst P [] = ⊤
IsFirst P (n ∷ ns) = P n

-- the entries that these grounds name
abbrev pub numbers_of : Grounds → List ℕ
numbers_of (Live ns) = ns
numbers_of (Kept ns) = ns
numbers_of (Fault cause n) = []

-- What was found counts from the first of its replies, or where it was renewed, from the last.
abbrev pub IsCountedHere : ℕ → List ℕ → Bool → Grounds → Type 0
IsCountedHere given kept true grounds = IsLast (IsHere given kept) (numbers_of grounds)
IsCountedHere given kept false grounds = IsFirst (IsHere given kept) (numbers_of grounds)

-- who is told, and what
pub record IsTellingHere (given : ℕ) (kept : List ℕ) (x : Telling) : Type 0 where
  pub ask : IsHere given kept x.reader.ask
  pub counted : IsCountedHere given kept x.renewed x.finding.grounds

-- how an exchange ends, and how it comes on
abbrev pub IsEndHere : ℕ → List ℕ → Ended → Type 0
IsEndHere given kept (How.Found found) = IsCountedHere given kept false found.grounds
IsEndHere given kept (How.Renewed found o) = IsCountedHere given kept true found.grounds
IsEndHere given kept How.Turned = ⊤

abbrev pub IsComingHere : ℕ → List ℕ → Coming → Type 0
IsComingHere given kept (Comes.Goes onward) = ⊤
IsComingHere given kept (Comes.Ends ended) = IsEndHere given kept ended

-- what a message is to the exchanges
abbrev pub IsMatterHere : ℕ → List ℕ → Matter → Type 0
IsMatterHere given kept M.Nothing = ⊤
IsMatterHere given kept (M.Tells told) = ⊤
IsMatterHere given kept (M.Starts starting) = ⊤
IsMatterHere given kept (M.Goes going) = IsAskedHere given kept going.exchange
IsMatterHere given kept (M.Over e ended) = IsAskedHere given kept e × IsEndHere given kept ended
