-- Answers, as plain data.
use Rattle.std.specs.Prelude.{◌≡◌, ◌⊎◌, ℕ, true, false, ◌==◌, List, [], ◌∷◌, ◌++◌, Option, Some, is_some, slice_get, ⊤}
use Rattle.std.specs.List.{Contains}
use Rattle.std.specs.Arc.{arc_value}
use Rattle.coap_codec.specs.Spelling.{Content, Spells}
use Rattle.uri_map.specs.declared.peer.Peer.{Peer}
use Rattle.ask_model.specs.Requests.{CoapRequest, Sense, Requests}
use Rattle.ask_model.specs.Views.{Mapping}
use Rattle.journal_book.specs.Entries.{Grounds, Live, Kept, Fault, Heard, done_of, Deed, Asks, Answers, Written}
use Rattle.journal_book.specs.Views.{ask_of}
use Rattle.history_laws.specs.Responses.{Response, confirms, first_some, response_of, valid, whole_fetched, whole_of}
use Rattle.reply_reading.specs.Findings.{Found, Told, Tells, Fails}
use Rattle.exchange_core.specs.declared.answer.Answer.{Answer}
use Rattle.exchange_core.specs.Values.{written}

pub record Given : Type 0 where
  pub conn : ℕ
  pub ask : ℕ
  pub number : ℕ
  pub moment : ℕ
  pub heard : ℕ
  pub mapping : Mapping
  pub found : Found

abbrev pub given_of : {R : Type 0} → Answer R → Given
given_of a = record {
  conn = a.conn;
  ask = a.ask;
  number = a.number;
  moment = a.moment;
  heard = a.heard;
  mapping = arc_value a.mapped;
  found = a.finding;
}

-- its entry
abbrev pub answer_entry : Given → Written
answer_entry g = written g.moment (Answers g.conn g.ask g.found.grounds)

-- The entry with this number, or that which it is a copy of, was heard at this moment, and spells
-- this message.
pub record HeardAs (h : List Written) (j t : ℕ) (m : Content) : Type 0 where
  pub peer : Peer
  pub bytes : List ℕ
  pub deed : Deed
  pub stands : slice_get h j ≡ Some (written t deed)
  pub says : done_of deed ≡ Some (Heard peer bytes)
  pub spelled : Spells m bytes

-- In order, the entries with these numbers spell these messages.
abbrev pub AreHeard : List Written → List ℕ → List Content → Type 0
AreHeard h [] [] = ⊤
AreHeard h (j ∷ js) (m ∷ ms) = ((t : ℕ) × HeardAs h j t m) × AreHeard h js ms
AreHeard h _ _ = ⊥

-- They are the pieces of a response, and the last is a 2.03 by which it was renewed (RFC 7252
-- section 5.9.1.3). Before that it had a format, be it one that an earlier 2.03 named; all else was
-- as it was fetched.
pub record IsRenewal (ms : List Content) (w : Response) : Type 0 where
  pub first : Content
  pub more : List Content
  pub last : Content
  pub is : ms ≡ (first ∷ more) ++ last ∷ []
  pub response : Response
  pub whole : whole_fetched first more ≡ Some response
  pub says : last.code ≡ valid
  pub before : Option ℕ
  pub renewed : w
      ≡ record response {
        format = first_some (response_of last).format before;
        max_age = (response_of last).max_age;
      }

-- They are a whole response, or a renewed one to a GET.
abbrev pub IsResponse : CoapRequest → List Content → Response → Type 0
IsResponse q ms w = (whole_of q ms ≡ Some w) ⊎ ((q.method ≡ 1) × IsRenewal ms w)

-- What an ask came to is what its grounds say: the response that the replies are, or the cause.
abbrev pub IsFound : List Written → Told → Grounds → Sense → Type 0
IsFound h (Tells w) (Live js) (Requests q) =
    (ms : List Content) × AreHeard h js ms × IsResponse q ms w
IsFound h (Tells w) (Kept js) (Requests q) =
    (ms : List Content) × AreHeard h js ms × IsResponse q ms w
IsFound h (Fails cause) (Fault named n) sense = cause ≡ named
IsFound h _ _ _ = ⊥

-- A response in this format was heard: in one of the entries that it rests on, which is no 2.03; or
-- a 2.03 named the format, by which what has its ETag is valid still.
pub record IsInFormat (h : List Written) (js : List ℕ) (w : Response) : Type 0 where
  pub number : ℕ
  pub moment : ℕ
  pub message : Content
  pub heard : HeardAs h number moment message
  pub format : (response_of message).format ≡ w.format
  pub source : (Contains js number × (message.code == valid ≡ false))
      ⊎ ((confirms w.etag message ≡ true) × (is_some w.format ≡ true))

abbrev pub HasFormat : List Written → Told → Grounds → Type 0
HasFormat h (Tells w) (Live js) = IsInFormat h js w
HasFormat h (Tells w) (Kept js) = IsInFormat h js w
HasFormat h told grounds = ⊤

-- the last of these
abbrev pub last_in : ℕ → List ℕ → ℕ
last_in j [] = j
last_in j (k ∷ ks) = last_in k ks

-- It counts from the moment at which its first reply was heard, where the last is no 2.03,
pub record CountsFromFirst (h : List Written) (j : ℕ) (js : List ℕ) (heard : ℕ) : Type 0 where
  pub message : Content
  pub first : HeardAs h j heard message
  pub moment : ℕ
  pub last : Content
  pub ends : HeardAs h (last_in j js) moment last
  pub other : last.code == valid ≡ false

-- or else that 2.03,
pub record CountsFromLast (h : List Written) (j : ℕ) (js : List ℕ) (heard : ℕ) : Type 0 where
  pub message : Content
  pub last : HeardAs h (last_in j js) heard message
  pub says : message.code == valid ≡ true

abbrev pub CountsFromReplies : List Written → ℕ → List ℕ → ℕ → Type 0
CountsFromReplies h j js heard = CountsFromFirst h j js heard ⊎ CountsFromLast h j js heard

-- or, where there is no reply, from the moment at which it was given.
abbrev pub CountsFrom : List Written → Grounds → ℕ → ℕ → Type 0
CountsFrom h (Live (j ∷ js)) t heard = CountsFromReplies h j js heard
CountsFrom h (Kept (j ∷ js)) t heard = CountsFromReplies h j js heard
CountsFrom h _ t heard = heard ≡ t

-- The entries have the ask, by this connection, and its answer on these grounds.
pub record IsGiven (h : List Written) (g : Given) : Type 0 where
  pub asked : ℕ
  pub ask_stands : slice_get h g.ask ≡ Some (written asked (Asks g.conn (ask_of g.mapping)))
  pub stands : slice_get h g.number ≡ Some (answer_entry g)
  pub found : IsFound h g.found.told g.found.grounds g.mapping.sense
  pub format : HasFormat h g.found.told g.found.grounds
  pub counts : CountsFrom h g.found.grounds g.moment g.heard
