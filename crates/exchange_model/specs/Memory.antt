-- Which entries a state looks up again by their numbers: they stand in memory, however many of the
-- entries were given out.
use Rattle.std.specs.Prelude.{◌≡◌, ℕ, ◌+◌, ◌≤◌, true, List, [], ◌∷◌, length, ⊤}
use Rattle.std.specs.List.{AllByRecursion}
use Rattle.limits.specs.declared.TheConstants.{MAX_ENTRIES, MAX_NUMBERED}
use Rattle.observe_share.specs.declared.registration.Registration.{Registration}
use Rattle.resp_cache.specs.declared.pair.Pair.{Pair}
use Rattle.journal_book.specs.Entries.{Written}
use Rattle.journal_book.specs.Journals.{IsHere}
use Rattle.exchange_model.specs.declared.kept.Exchange.{Exchange}
use Rattle.exchange_model.specs.declared.kept.Piece.{Piece}
use Rattle.exchange_model.specs.declared.kept.Reader.{Reader}
use Rattle.exchange_model.specs.State.{State}

-- the last of these, if there is one
abbrev pub IsLast : (ℕ → Type 0) → List ℕ → Type 0
IsLast P [] = ⊤
IsLast P (n ∷ []) = P n
IsLast P (n ∷ m ∷ ns) = IsLast P (m ∷ ns)

-- The ask of an open exchange; and its opening, where that is to be what it registers for.
pub record IsNamedBy (P : ℕ → Type 0) (e : Exchange) : Type 0 where
  pub ask : P e.ask
  pub registers : e.observes ≡ true → P e.opening

-- So is each entry that a state looks up: what exchanges were opened for, and the replies by which
-- they go on; the asks of who waits; the asks by which the proxy became an observer; and of each
-- response that is stored the last that it rests on.
pub record AreNamed (P : ℕ → Type 0) (S : State) : Type 0 where
  pub exchanges : AllByRecursion (IsNamedBy P) S.exchanges
  pub pieces : AllByRecursion (λ (x : Piece). P x.number) S.pieces
  pub readers : AllByRecursion (λ (r : Reader). P r.ask) S.readers
  pub watches : AllByRecursion (λ (r : Registration). P r.opening) S.watches
  pub store : AllByRecursion (λ (p : Pair). IsLast P p.stored.list) S.store

-- Of these entries so many were given out; and no more tokens were issued and connections opened
-- than MAX_NUMBERED and one for each entry that wasn't.
pub record AreCounted (given tokens conns : ℕ) (ws : List Written) : Type 0 where
  pub within : given ≤ length ws
  pub issued : tokens + given ≤ MAX_NUMBERED + length ws
  pub opened : conns + given ≤ MAX_NUMBERED + length ws

-- So many entries a journal has at most, however many were given out: their numbers have 32 bits.
abbrev pub most_entries : ℕ
most_entries = MAX_NUMBERED + 1024 + MAX_ENTRIES

-- Each entry that is looked up stands in memory, and all numbers have 32 bits.
pub record Here (S : State) : Type 0 where
  pub named : AreNamed (IsHere S.given S.kept) S
  pub counted : AreCounted S.given S.issued S.opened S.entries
  pub numbered : S.given ≤ MAX_NUMBERED + 1024
