-- Asks that the store answers.
use Rattle.std.specs.Prelude.{◌≡◌, ◌⊎◌, ℕ, ◌+◌, List, [], ◌∷◌, length, Option, Some, None}
use Rattle.coap_codec.specs.Spelling.{Content}
use Rattle.cache_key.specs.Keys.{CacheKey}
use Rattle.resp_cache.specs.Stored.{Stored}
use Rattle.resp_cache.specs.Stores.{moved, served}
use Rattle.resp_cache.specs.declared.pair.Pair.{Pair}
use Rattle.ask_model.specs.Requests.{CoapRequest, Sense, Requests}
use Rattle.ask_model.specs.Sharing.{key_read}
use Rattle.ask_model.specs.Views.{Ask, Mapping}
use Rattle.journal_book.specs.Entries.{Kept, Deed, Asks, Answers, Written}
use Rattle.journal_book.specs.Views.{ask_of}
use Rattle.history_laws.specs.Responses.{whole_fetched}
use Rattle.reply_reading.specs.Findings.{Tells}
use Rattle.exchange_model.specs.State.{State}
use Rattle.exchange_model.specs.Hearing.{Numbers}
use Rattle.exchange_model.specs.Calls.{asked}
use Rattle.exchange_model.specs.Entering.{entered_all}
use Rattle.exchange_model.specs.Room.{KeptInRoom}
use Rattle.exchange_model.specs.Watching.{touched}
use Rattle.exchange_model.specs.Sealing.{in_room}
use Rattle.exchange_core.specs.Answering.{Given, HeardAs, AreHeard, CountsFromLast, IsInFormat, IsRenewal}

-- what is stored for an ask, where it is a GET and that is fresh
abbrev pub served_under : Option CacheKey → ℕ → List Pair → Option Stored
served_under None t ps = None
served_under (Some key) t ps = served key t ps

abbrev pub served_for : Sense → ℕ → List Pair → Option Stored
served_for sense t ps = served_under (key_read sense) t ps

-- It comes to the front.
abbrev pub moved_under : Option CacheKey → ℕ → List Pair → List Pair
moved_under None t ps = ps
moved_under (Some key) t ps = moved key t ps

abbrev pub moved_for : Sense → ℕ → List Pair → List Pair
moved_for sense t ps = moved_under (key_read sense) t ps

-- the ask, and its answer by what is stored
abbrev pub recall_deeds : ℕ → Ask → Stored → State → List Deed
recall_deeds c a s S = Asks c a ∷ Answers c (length S.entries) (Kept s.list) ∷ []

-- the state after it
abbrev pub recalled : ℕ → ℕ → Ask → Stored → State → State
recalled t c a s S = let S1 = entered_all t (recall_deeds c a s S) S in record S1 {
  watches = touched t a.sense S.watches;
  store = moved_for a.sense t S.store;
}

-- the answer to the ask in the entry with this number
abbrev pub kept_given : ℕ → ℕ → ℕ → Mapping → Stored → Given
kept_given n t c m s = record {
  conn = c;
  ask = n;
  number = n + 1;
  moment = t;
  heard = s.heard;
  mapping = m;
  found = record { told = Tells s.response; grounds = Kept s.list };
}

-- What is stored was heard whole, in reply to a GET: the first of it at that moment, and the other
-- pieces, if there are any, after it.
pub record WasWhole (h : List Written) (s : Stored) : Type 0 where
  pub number : ℕ
  pub others : List ℕ
  pub message : Content
  pub more : List Content
  pub list : s.list ≡ number ∷ others
  pub first : HeardAs h number s.heard message
  pub rest : AreHeard h others more
  pub whole : whole_fetched message more ≡ Some s.response

-- Or a 2.03 that renewed it was heard at that moment, after the pieces.
pub record WasRenewed (h : List Written) (s : Stored) : Type 0 where
  pub number : ℕ
  pub others : List ℕ
  pub list : s.list ≡ number ∷ others
  pub messages : List Content
  pub heard : AreHeard h (number ∷ others) messages
  pub renewal : IsRenewal messages s.response
  pub format : IsInFormat h (number ∷ others) s.response
  pub counts : CountsFromLast h number others s.heard

abbrev pub WasHeard : List Written → Stored → Type 0
WasHeard h s = WasWhole h s ⊎ WasRenewed h s

-- The ask is a GET that is answered so, whatever its message would be sent under, which keeps what
-- a core keeps.
pub record MayRecall (t c : ℕ) (m : Mapping) (s : Stored) (S : State) : Type 0 where
  pub request : CoapRequest
  pub sense : m.sense ≡ Requests request
  pub get : request.method ≡ 1
  pub heard : WasHeard S.entries s
  pub is : (n : Numbers) → asked t c (ask_of m) n S ≡ recalled t c (ask_of m) s S
  pub kept : KeptInRoom (in_room t (recalled t c (ask_of m) s S) S)
