-- What a table knows of the messages that were sent, and what it tells of replies.
use Rattle.std.specs.Prelude.{◌≡◌, ℕ, List, Option, Some, None, get_or}
use Rattle.std.specs.HashMap.{HashMap, get}
use Rattle.uri_map.specs.declared.peer.Peer.{Peer}
use Rattle.journal_book.specs.Entries.{Done, Heard, Written}
use Rattle.exchange_model.specs.Backing.{replied_to, token_in, unanswered, unanswered_by}
use Rattle.journal_copies.specs.declared.line.Line.{Line}
use Rattle.journal_copies.specs.Lines.{same_line}

abbrev pub line_of : Peer → List ℕ → Line
line_of p token = record { peer = p; token = token }

abbrev pub line_in : Peer → List ℕ → Line
line_in p bytes = line_of p (token_in bytes)

-- The table has the first sendings, after these entries, under whose token nothing was heard since.
abbrev pub Awaits : {S : Type 0} → HashMap Line ℕ S → List Written → Type 0
Awaits m ws =
    (p : Peer) (token : List ℕ) → get same_line m (line_of p token) ≡ unanswered p token ws

-- to which message it is a reply, heard after these entries
abbrev pub replied_by : List Written → Option Done → Option ℕ
replied_by ws (Some (Heard p b)) = unanswered p (token_in b) ws
replied_by ws _ = None

-- What was done in the entry with this number, after these, is taken up; and it is told to which
-- message it is a reply.
pub record Traced {S : Type 0} (n : ℕ) (done : Option Done) (ws : List Written)
    (m : HashMap Line ℕ S) (told : Option ℕ) : Type 0 where
  pub awaits : (p : Peer) (token : List ℕ)
      → get same_line m (line_of p token) ≡ unanswered_by p token n done (unanswered p token ws)
  pub told_is : told ≡ replied_by ws done

-- For each entry it is told to which message it has the first reply.
abbrev pub AreTraced : List Written → List (Option ℕ) → Type 0
AreTraced ws rs = (n : ℕ) → get_or rs n None ≡ replied_to ws n
