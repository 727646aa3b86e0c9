-- What contracts see of a core.
use Rattle.std.specs.Prelude.{ℕ, ◌+◌, List, [], ◌∷◌, ◌++◌, length, drop}
use Rattle.std.specs.Arc.{arc_value}
use Rattle.uri_map.specs.declared.peer.Peer.{Peer}
use Rattle.journal_book.specs.Entries.{Deed, Sends, Answers, Written}
use Rattle.exchange_model.specs.State.{State}
use Rattle.exchange_core.specs.declared.outgoing.Datagram.{Datagram}

-- a datagram that goes out
pub record Outgoing : Type 0 where
  pub peer : Peer
  pub bytes : List ℕ

abbrev pub outgoing_of : Datagram → Outgoing
outgoing_of d = record { peer = d.peer; bytes = arc_value d.bytes }

abbrev pub written : ℕ → Deed → Written
written t d = record { moment = t; deed = d }

-- an answer that isn't taken yet: its connection, its ask, and the number of its own entry
pub record Untaken : Type 0 where
  pub conn : ℕ
  pub ask : ℕ
  pub number : ℕ

-- what a core keeps, and what of it isn't taken yet: answers and datagrams
pub record CoreValue : Type 0 where
  pub state : State
  pub untaken : List Untaken
  pub unsent : List Outgoing

-- the answers among entries, the first of which has this number
abbrev pub answered_by : ℕ → Deed → List Untaken
answered_by n (Answers c k g) = record { conn = c; ask = k; number = n } ∷ []
answered_by n _ = []

abbrev pub answered_in : ℕ → List Written → List Untaken
answered_in n [] = []
answered_in n (w ∷ ws) = answered_by n w.deed ++ answered_in (n + 1) ws

-- the datagrams that entries send
abbrev pub sent_by : Deed → List Outgoing
sent_by (Sends p b w) = record { peer = p; bytes = b } ∷ []
sent_by _ = []

abbrev pub sent_in : List Written → List Outgoing
sent_in [] = []
sent_in (w ∷ ws) = sent_by w.deed ++ sent_in ws

-- The core after a step that leaves this state: what it adds is to be taken after what is there.
abbrev pub stepped : State → CoreValue → CoreValue
stepped S v = let more = drop (length v.state.entries) S.entries in record {
  state = S;
  untaken = v.untaken ++ answered_in (length v.state.entries) more;
  unsent = v.unsent ++ sent_in more;
}
