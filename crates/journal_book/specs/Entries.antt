-- The entries of a journal: plain data.
use Rattle.std.specs.Prelude.{ℕ, ◌+◌, ◌*◌, List, length, Option, Some, None, option_map}
use Rattle.ask_model.specs.declared.cause.Cause.{Cause}
use Rattle.uri_map.specs.declared.peer.Peer.{Peer}
use Rattle.ask_model.specs.Views.{Ask}
use Rattle.ask_model.specs.Sizes.{came_size}

-- What an answer rests on. The numbers are those of entries: of the replies just heard, of the
-- replies of a stored response, or of the entry that a cause names.
pub data Grounds : Type 0 where
  Live : (replies : List ℕ) → Grounds
  Kept : (replies : List ℕ) → Grounds
  Fault : (cause : Cause) → (number : ℕ) → Grounds

-- What a copy is for: an answer may rest on it, or it tells tokens, message IDs and repeats.
pub data Mark : Type 0 where
  Ground : Mark
  Past : Mark

-- what may be copied: an ask, a sending, and what was heard
pub data Done : Type 0 where
  Asked : (conn : ℕ) → (ask : Ask) → Done
  Sent : (peer : Peer) → (bytes : List ℕ) → (timeout : Option ℕ) → Done
  Heard : (peer : Peer) → (bytes : List ℕ) → Done

-- What an entry says was done. A connection and an ask go by the number of their entry. A first
-- sending bears its first timeout in milliseconds.
pub data Deed : Type 0 where
  Opens : (conn : ℕ) → Deed
  Asks : (conn : ℕ) → (ask : Ask) → Deed
  Sends : (peer : Peer) → (bytes : List ℕ) → (timeout : Option ℕ) → Deed
  Hears : (peer : Peer) → (bytes : List ℕ) → Deed
  Passes : Deed
  Answers : (conn : ℕ) → (ask : ℕ) → (grounds : Grounds) → Deed
  Shuts : (conn : ℕ) → Deed
  Seals : Deed
  -- a copy of what the entry with this number of the journal given out before said was done
  Carries : (number : ℕ) → (mark : Mark) → (done : Done) → Deed

-- what an entry says was done, where it may be copied
abbrev pub done_of : Deed → Option Done
done_of (Asks c a) = Some (Asked c a)
done_of (Sends p b w) = Some (Sent p b w)
done_of (Hears p b) = Some (Heard p b)
done_of (Carries n mark done) = Some done
done_of _ = None

-- an entry, with its moment in milliseconds
pub record Written : Type 0 where
  pub moment : ℕ
  pub deed : Deed

-- the copy of an entry that the next journal has, under the number that the entry has in this one
abbrev pub carried_as : ℕ → Mark → Written → Option Written
carried_as n mark w =
    option_map (λ done. record { moment = w.moment; deed = Carries n mark done }) (done_of w.deed)

abbrev pub grounds_size : Grounds → ℕ
grounds_size (Live js) = 4 * length js
grounds_size (Kept js) = 4 * length js
grounds_size (Fault cause n) = 4

abbrev pub done_size : Done → ℕ
done_size (Asked c a) = came_size a.came
done_size (Sent p b t) = length b
done_size (Heard p b) = length b

abbrev pub deed_size : Deed → ℕ
deed_size (Asks c a) = came_size a.came
deed_size (Sends p b t) = length b
deed_size (Hears p b) = length b
deed_size (Answers c k g) = grounds_size g
deed_size (Carries n mark d) = done_size d
deed_size _ = 0

-- what an entry counts: 64 bytes, its byte strings, and 4 bytes for each number of its grounds
abbrev pub entry_size : Written → ℕ
entry_size e = 64 + deed_size e.deed
