-- When a journal may be sealed: the next step may be one that it has no room for.
use Rattle.std.specs.Prelude.{◌⊎◌, ℕ, ◌+◌, ◌*◌, ◌<◌, max, Bool, nat_lt, List, length, filter, count_by, sum_by}
use Rattle.std.specs.List.{range_with_len}
use Rattle.limits.specs.declared.TheConstants.{MAX_ANSWER_SIZE, MAX_ENTRIES, MAX_JOURNAL_LEN, MAX_MESSAGE_LEN, MAX_REQUEST_SIZE}
use Rattle.journal_book.specs.Entries.{entry_size}
use Rattle.history_laws.specs.Readings.{Noted, entries}
use Rattle.history_laws.specs.Connections.{is_open, asks_of, answers_of, opened}
use Rattle.history_laws.specs.Transmissions.{firsts, is_outstanding}

-- the connections that are open, and how many of them have an ask that isn't answered
abbrev pub open_conns : List Noted → List ℕ
open_conns l = filter (is_open l) (range_with_len 0 (opened l))

abbrev pub has_asked : List Noted → ℕ → Bool
has_asked l c = nat_lt (length (answers_of l c)) (length (asks_of l c))

abbrev pub asks_waiting : List Noted → ℕ
asks_waiting l = count_by (has_asked l) (open_conns l)

-- Held free are a Shut for each open connection, an answer of 90,000 bytes for each ask that waits,
-- and the Sealed.
abbrev pub held_entries : List Noted → ℕ
held_entries l = length (open_conns l) + asks_waiting l + 1

abbrev pub held_bytes : List Noted → ℕ
held_bytes l = 64 * length (open_conns l) + MAX_ANSWER_SIZE * asks_waiting l + 64

-- how many messages are outstanding: one at most at each endpoint (NSTART, RFC 7252 section 4.7)
abbrev pub outstanding_count : List Noted → ℕ
outstanding_count l = count_by (is_outstanding l) (firsts l)

-- what the entry of a request's message counts at most
abbrev pub sending_size : ℕ
sending_size = 64 + MAX_MESSAGE_LEN

-- The most that a step adds, and holds free from then on. An ask adds its entry and a message, and
-- holds its answer; a datagram adds its entry, an ACK or RST, and a message; a tick adds its entry,
-- and a message at each endpoint where one is outstanding. An answer was held free before.
abbrev pub step_entries : List Noted → ℕ
step_entries l = max 3 (1 + outstanding_count l)

abbrev pub step_bytes : List Noted → ℕ
step_bytes l =
    max (64 + MAX_REQUEST_SIZE + sending_size + MAX_ANSWER_SIZE)
    (64 + sending_size * outstanding_count l)

abbrev pub MaySeal : List Noted → Type 0
MaySeal l =
    (MAX_ENTRIES < length (entries l) + held_entries l + step_entries l)
    ⊎ (MAX_JOURNAL_LEN < sum_by entry_size (entries l) + held_bytes l + step_bytes l)
