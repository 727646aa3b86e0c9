-- The room of a journal, and what of it is held free.
use Rattle.std.specs.Prelude.{◌≡◌, ℕ, ◌+◌, ◌-◌, ◌*◌, ◌≤◌, Bool, true, false, ◌&&◌, nat_le, is_some, List, [], ◌∷◌, drop, take, length, map, sum_by, count_by, Option, Some, None, ⊤}
use Rattle.std.specs.List.{AllByRecursion, list_any}
use Rattle.limits.specs.declared.TheConstants.{MAX_ANSWER_SIZE, MAX_ENTRIES, MAX_JOURNAL_LEN, MAX_MESSAGE_LEN}
use Rattle.uri_map.specs.declared.peer.Peer.{Peer}
use Rattle.uri_map.specs.Peers.{same_peer}
use Rattle.journal_book.specs.Entries.{entry_size}
use Rattle.message_layer.specs.Values.{LinkState}
use Rattle.message_layer.specs.declared.state.Outstanding.{Outstanding}
use Rattle.message_layer.specs.declared.state.Waiting.{Waiting}
use Rattle.exchange_model.specs.declared.kept.Conn.{Conn}
use Rattle.exchange_model.specs.State.{PeerLink, State}
use Rattle.exchange_model.specs.Calls.{peer_of}
use Rattle.exchange_model.specs.Keeping.{Kept}
use Rattle.exchange_model.specs.Memory.{Here}

-- how many connections wait for an answer
abbrev pub has_asked : Conn → Bool
has_asked x = is_some x.pending

abbrev pub asks_waiting : State → ℕ
asks_waiting S = count_by has_asked S.conns

-- how many Sealed are to come
abbrev pub seals_left : Bool → ℕ
seals_left true = 0
seals_left false = 1

-- Held free are a Shut for each connection, an answer for each ask that waits, and the Sealed: what
-- is taken with these by the entries that weren't given out.
abbrev pub entries_taken : State → ℕ
entries_taken S =
    length S.entries - S.given + length S.conns + asks_waiting S + seals_left S.sealed

abbrev pub bytes_taken : State → ℕ
bytes_taken S =
    sum_by entry_size (drop S.given S.entries) + 64 * length S.conns
    + MAX_ANSWER_SIZE * asks_waiting S + 64 * seals_left S.sealed

abbrev pub fits : State → Bool
fits S = nat_le (entries_taken S) MAX_ENTRIES && nat_le (bytes_taken S) MAX_JOURNAL_LEN

-- The messages that are outstanding or wait are of the length of a request's.
abbrev pub IsShortOut : Option Outstanding → Type 0
IsShortOut None = ⊤
IsShortOut (Some o) = length o.datagram ≤ MAX_MESSAGE_LEN

pub record IsShort (s : LinkState) : Type 0 where
  pub outstanding : IsShortOut s.outstanding
  pub waiting : AllByRecursion (λ (w : Waiting). length w.datagram ≤ MAX_MESSAGE_LEN) s.waiting

-- Each endpoint has one link.
abbrev pub AreApart : List Peer → Type 0
AreApart [] = ⊤
AreApart (p ∷ ps) = (list_any (λ (q : Peer). same_peer q p) ps ≡ false) × AreApart ps

-- What holds of a core between two steps, whose journal is within its limits, and in memory where
-- it looks that up.
pub record KeptInRoom (S : State) : Type 0 where
  pub kept : Kept S
  pub here : Here S
  pub fit : fits S ≡ true
  pub short : AllByRecursion (λ (x : PeerLink). IsShort x.link) S.links
  pub apart : AreApart (map peer_of S.links)

-- Its entries in memory are within the limits, with what has to come.
abbrev pub WithinLimits : Type 0
WithinLimits =
    (S : State) → KeptInRoom S
    → (length S.entries - S.given + length S.conns + asks_waiting S ≤ MAX_ENTRIES)
    × (sum_by entry_size (drop S.given S.entries) ≤ MAX_JOURNAL_LEN)

-- The next n entries are given out, and of all that were those with these numbers stand in memory
-- still. Nothing else changes: the journal has them as before.
abbrev pub gives : ℕ → List ℕ → State → State
gives n ks S = record S { given = S.given + n; kept = ks }

-- What is kept of a core between two steps is kept after that, and the journal within its limits.
abbrev pub GivesKeeps : Type 0
GivesKeeps =
    (n : ℕ) (ks : List ℕ) (S : State) → KeptInRoom S → Here (gives n ks S)
    → KeptInRoom (gives n ks S)

-- What they took is free again.
abbrev pub GivesFree : Type 0
GivesFree =
    (n : ℕ) (ks : List ℕ) (S : State) → S.given + n ≤ length S.entries
    → (entries_taken (gives n ks S) + n ≡ entries_taken S)
    × (bytes_taken (gives n ks S) + sum_by entry_size (take n (drop S.given S.entries))
    ≡ bytes_taken S)
