-- What a step adds.
use Rattle.std.specs.Prelude.{◌≡◌, ℕ, ◌+◌, List, [], ◌∷◌, ◌++◌, length, map, Option, ⊤}
use Rattle.std.specs.List.{AllByRecursion}
use Rattle.uri_map.specs.declared.peer.Peer.{Peer}
use Rattle.journal_book.specs.Entries.{Deed, Opens, Sends, Answers, Shuts, Written}
use Rattle.exchange_model.specs.State.{State}
use Rattle.exchange_core.specs.Values.{Outgoing, Untaken, written, answered_in, sent_in}
use Rattle.exchange_core.specs.Answering.{Given, IsGiven, answer_entry}

-- the number of the next entry, the entries so far, and the datagrams and answers among them
pub record DraftValue : Type 0 where
  pub next : ℕ
  pub entries : List Written
  pub sends : List Outgoing
  pub answers : List Given

-- nothing yet, where there are so many entries
abbrev pub empty_draft : ℕ → DraftValue
empty_draft n = record { next = n; entries = []; sends = []; answers = [] }

abbrev pub draft_with : Written → DraftValue → DraftValue
draft_with w d = record {
  next = d.next + 1;
  entries = d.entries ++ w ∷ [];
  sends = d.sends;
  answers = d.answers;
}

abbrev pub draft_sending : ℕ → Peer → List ℕ → Option ℕ → DraftValue → DraftValue
draft_sending t p b wait d =
    let e = draft_with (written t (Sends p b wait)) d in
    record e { sends = d.sends ++ record { peer = p; bytes = b } ∷ [] }

abbrev pub draft_answering : Given → DraftValue → DraftValue
draft_answering g d =
    let e = draft_with (answer_entry g) d in record e { answers = d.answers ++ g ∷ [] }

abbrev pub untaken_of : Given → Untaken
untaken_of g = record { conn = g.conn; ask = g.ask; number = g.number }

-- a deed that opens no connection, and shuts none
abbrev pub KeepsConns : Deed → Type 0
KeepsConns (Opens c) = ⊥
KeepsConns (Shuts c) = ⊥
KeepsConns _ = ⊤

abbrev pub AllKeep : List Written → Type 0
AllKeep ws = AllByRecursion (λ (w : Written). KeepsConns w.deed) ws

-- What was drafted, after this state and at this moment, is just these deeds, with the datagrams
-- and answers among them.
pub record Drafts (t : ℕ) (S : State) (ds : List Deed) (d : DraftValue) : Type 0 where
  pub next : d.next ≡ length S.entries + length ds
  pub entries : d.entries ≡ map (written t) ds
  pub keep : AllKeep d.entries
  pub sends : d.sends ≡ sent_in (map (written t) ds)
  pub answers : map untaken_of d.answers ≡ answered_in (length S.entries) (map (written t) ds)

-- Its answers stand in the journal with it.
pub record IsDrafted (t : ℕ) (S : State) (ds : List Deed) (d : DraftValue) : Type 0 where
  pub drafts : Drafts t S ds d
  pub given : AllByRecursion (IsGiven (S.entries ++ d.entries)) d.answers

-- a deed that neither sends nor answers
abbrev pub IsAlone : Deed → Type 0
IsAlone (Sends p b w) = ⊥
IsAlone (Answers c k g) = ⊥
IsAlone _ = ⊤
