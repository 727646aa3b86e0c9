-- What of a journal is copied.
use Rattle.std.specs.Prelude.{◌≡◌, ℕ, ◌+◌, ◌<◌, Bool, false, List, [], ◌∷◌, ◌++◌, sum_by, Option, Some, None}
use Rattle.std.specs.Option.{option_to_list}
use Rattle.std.specs.HashMap.{HashMap}
use Rattle.ask_model.specs.Sizes.{capped}
use Rattle.uri_map.specs.declared.peer.Peer.{Peer}
use Rattle.journal_book.specs.Entries.{Done, Sent, Heard, done_of, carried_as, Deed, Carries, Written, entry_size}
use Rattle.journal_book.specs.Views as V
use Rattle.journal_book.specs.declared.entry.Mark.{Mark as RustMark}
use Rattle.exchange_model.specs.Rotating.{Seen, seen_by, is_recent_first}
use Rattle.journal_copies.specs.declared.copies.Copies.{Copies}
use Rattle.journal_copies.specs.declared.remembering.Received.{Received}
use Rattle.journal_copies.specs.declared.source.Source.{Source}
use Rattle.journal_copies.specs.Knowing.{AreBefore, Knows}
use Rattle.journal_copies.specs.Marking.{mark_if, past_if}

-- the peers of copies
abbrev pub peer_of : Deed → Option Peer
peer_of (Carries n mark (Sent p b w)) = Some p
peer_of (Carries n mark (Heard p b)) = Some p
peer_of _ = None

abbrev pub peers_in : List Written → List Peer
peers_in [] = []
peers_in (w ∷ ws) = option_to_list (peer_of w.deed) ++ peers_in ws

-- what was heard
abbrev pub received : Received → Peer × List ℕ
received r = (r.peer, r.bytes.now)

abbrev pub heard_in : Option Done → Option (Peer × List ℕ)
heard_in (Some (Heard p b)) = Some (p, b)
heard_in _ = None

-- what was sent, its first timeout, and what was sent for the first time
abbrev pub sent_in : Option Done → Option (Peer × List ℕ)
sent_in (Some (Sent p b w)) = Some (p, b)
sent_in _ = None

abbrev pub timeout_in : Option Done → Option ℕ
timeout_in (Some (Sent p b w)) = w
timeout_in _ = None

abbrev pub first_in : Option Done → Option (Peer × List ℕ)
first_in (Some (Sent p b (Some w))) = Some (p, b)
first_in _ = None

abbrev pub is_recent_by : ℕ → ℕ → Option Done → Bool
is_recent_by t s None = false
is_recent_by t s (Some done) = is_recent_first t s done

-- the copy of what is marked
abbrev pub copied_by : Option RustMark → ℕ → Written → List Written
copied_by None n w = []
copied_by (Some mark) n w = option_to_list (carried_as n (V.mark_of mark) w)

-- An entry is looked at, after those that were seen: whether it is remembered.
pub record Looks {S : Type 0} (t n : ℕ) (w : Written) (old : List Seen) (m : HashMap Source ℕ S)
    (kept : Bool) : Type 0 where
  pub knows : Knows m (seen_by n w.moment (done_of w.deed) old)
  pub before : AreBefore (n + 1) (seen_by n w.moment (done_of w.deed) old)
  pub kept_is : mark_if t (seen_by n w.moment (done_of w.deed) old) [] n w.moment (done_of w.deed)
      ≡ past_if kept

-- These are the copies, counted, with the peers of each, and a place for one more entry. None of
-- them was given out.
pub record AreCounted {R : Type 0} (c : Copies R) : Type 0 where
  pub bytes : c.bytes ≡ capped (sum_by entry_size c.journal.entries)
  pub peers : c.peers.items ≡ peers_in c.journal.entries
  pub place : 0 < c.journal.room
  pub given : c.journal.given ≡ 0
  pub kept : c.journal.kept ≡ []
