-- A history with a reading: its entries, the newest first, each with a note.
use Rattle.std.specs.Prelude.{ℕ, Bool, true, false, List, [], ◌∷◌, ◌++◌, length, Option, Some, None, ◌==◌, if◌then◌else◌}
use Rattle.coap_codec.specs.Spelling.{Content}
use Rattle.ask_model.specs.Requests.{CoapRequest}
use Rattle.std.specs.List.{list_all}
use Rattle.journal_book.specs.Entries.{Written, Deed, Passes, Carries}
use Rattle.resp_cache.specs.Stored.{Stored}

-- what a response is to the observation of its resource (RFC 7641)
pub data Observation : Type 0 where
  -- nothing
  Unobserved : Observation
  -- by it the proxy became an observer
  Registers : Observation
  -- a newer notification with a whole representation
  Updates : Observation
  -- a newer notification with the first piece of one, whose rest isn't fetched
  Outdates : Observation
  -- or is: it opens an exchange for this request, which is what the ask with this number asked for
  -- by which the proxy became an observer
  Starts : (ask : ℕ) → (request : CoapRequest) → Observation
  -- a newer notification that is the last
  Cancels : Observation

-- what comes of a message that was heard: whether there is a place for what its exchange would send
-- next, and what it is to an observation
pub record Notice : Type 0 where
  pub place : Bool
  pub observation : Observation

abbrev pub unobserved : Notice
unobserved = record { place = true; observation = Unobserved }

-- how what was heard was answered: by an ACK, by a RST, or not at all
pub data Answered : Type 0 where
  Acknowledged : Answered
  Rejected : Answered
  Ignored : Answered

-- what a reading says of an entry
pub data Note : Type 0 where
  -- nothing
  Plain : Note
  -- it opens an exchange, for this request
  Begins : (request : CoapRequest) → Note
  -- it opens one too, which asks whether what is kept of an equal request is valid still
  Renews : (request : CoapRequest) → (kept : Stored) → Note
  -- it reads the exchange that the entry with this number opened
  Joins : (opening : ℕ) → Note
  -- it is served from a stored response, which was heard in the entries with these numbers
  Serves : (replies : List ℕ) → Note
  -- it is a first sending, of this message, of the exchange that the entry with this number opened;
  -- or it copies one, which was sent for the ask that the entry with this number copies
  First : (opening : ℕ) → (message : Content) → Note
  -- it is a copy of the first sending with this number
  Copies : (sending : ℕ) → Note
  -- it is the ACK or RST of the datagram that was just heard
  Confirms : Note
  -- what was heard spells this message, which answers the first sending with this number, if any;
  -- and what comes of it
  Says : (message : Content) → (to : Option ℕ) → (notice : Notice) → Note
  -- what was heard spells this message, and repeats what was heard in the entry with this number
  Repeats : (message : Content) → (heard : ℕ) → Note
  -- what was heard spells no message
  Garbled : Note
  -- it copies a first sending of this message, whose exchange isn't in this history
  Bygone : (message : Content) → Note
  -- it copies what was heard and spells this message, and how that was answered
  Recalls : (message : Content) → (answer : Answered) → Note

pub record Noted : Type 0 where
  pub written : Written
  pub note : Note

abbrev pub noted : ℕ → Deed → Note → Noted
noted t d note = record { written = record { moment = t; deed = d }; note = note }

-- Copies stand before all else.
abbrev pub carries : Deed → Bool
carries (Carries n mark d) = true
carries _ = false

abbrev pub are_copies : List Noted → Bool
are_copies l = list_all (λ (x : Noted). carries x.written.deed) l

-- the entries, oldest first
abbrev pub entries : List Noted → List Written
entries [] = []
entries (x ∷ older) = entries older ++ x.written ∷ []

-- The number of an entry is the number of those before it.
abbrev pub at : List Noted → ℕ → Option Noted
at [] n = None
at (x ∷ older) n = if n == length older then Some x else at older n

-- the history before the entry with this number
abbrev pub before : List Noted → ℕ → List Noted
before [] n = []
before (x ∷ older) n = if n == length older then older else before older n

-- the moment of the newest entry
abbrev pub newest : List Noted → ℕ
newest [] = 0
newest (x ∷ older) = x.written.moment

-- the moment of the last tick that left an entry
abbrev pub ticked_by : ℕ → Deed → ℕ → ℕ
ticked_by t Passes old = t
ticked_by t _ old = old

abbrev pub ticked : List Noted → ℕ
ticked [] = 0
ticked (x ∷ older) = ticked_by x.written.moment x.written.deed (ticked older)
