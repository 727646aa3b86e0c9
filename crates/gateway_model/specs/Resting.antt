-- Between two inputs nothing is left undone.
use Rattle.std.specs.Prelude.{◌≡◌, ◌⊎◌, ⊤, ℕ, true, false, List, [], map, Some}
use Rattle.http_edge.specs.Edges.{Expects, LeavesBytes}
use Rattle.http_edge.specs.declared.answer.HttpAnswer.{HttpAnswer}
use Rattle.ask_model.specs.Views.{Ask}
use Rattle.journal_book.specs.Entries.{Asks}
use Rattle.http_mapping.specs.Means.{closes}
use Rattle.history_claims.specs.Headline.{IsEntry}
use Rattle.gateway_connections.specs.Reads.{IsIdle}
use Rattle.exchange_model.specs.Resting.{HasConn}
use Rattle.exchange_model.specs.Room.{KeptInRoom}
use Rattle.exchange_core.specs.Answering.{Given}
use Rattle.gateway_model.specs.declared.input.Happening.{Happening}
use Rattle.gateway_model.specs.declared.input.When.{When}
use Rattle.gateway_model.specs.Acts.{Act, Served, Terms, DoesAll}
use Rattle.gateway_model.specs.Emissions.{Emission}
use Rattle.gateway_model.specs.Orders.{IsInOrder}
use Rattle.gateway_model.specs.Unasked.{Unasked, unasked_at}
use Rattle.gateway_model.specs.Waiting.{conn_id}

abbrev pub number_of : Unasked → ℕ
number_of x = x.number

-- The connections that are served are those of the core.
abbrev pub IsNumbered : Served → Type 0
IsNumbered s = map number_of s.unasked ≡ map conn_id s.core.state.conns

-- The entry with this number is an ask of the connection.
pub record IsAskOf (c k : ℕ) (s : Served) : Type 0 where
  pub moment : ℕ
  pub ask : Ask
  pub stands : IsEntry s.core.state.entries k moment (Asks c ask)

-- The connection waits for the answer to an ask; or to one after whose answer it is closed.
abbrev pub AwaitsAnswer : ℕ → Served → Type 0
AwaitsAnswer c s = (k : ℕ) × HasConn s.core.state.conns c (Some k)

pub record AwaitsLast (c : ℕ) (s : Served) : Type 0 where
  pub number : ℕ
  pub waits : HasConn s.core.state.conns c (Some number)
  pub asked : IsAskOf c number s
  pub last : closes asked.ask.came ≡ true

-- Its last request wasn't read, no request in its bytes can be asked, and its client was told to go
-- on where it expects that (RFC 9110 section 10.1.1). Just the bytes that its text leaves count as
-- unread: none that the request begun took.
pub record AwaitsBytes (x : Unasked) : Type 0 where
  pub goes_on : x.closing ≡ false
  pub idle : IsIdle x.text
  pub told : Expects x.text → x.told ≡ true
  pub counted : LeavesBytes x.text x.unread

-- Each open connection waits for an answer, or for bytes; and one whose last request was read waits
-- for the answer to that.
pub record AllRest (s : Served) : Type 0 where
  pub numbered : IsNumbered s
  pub asked : (c k : ℕ) → HasConn s.core.state.conns c (Some k) → IsAskOf c k s
  pub last :
      (c : ℕ) (x : Unasked) → unasked_at c s.unasked ≡ Some x → x.closing ≡ true → AwaitsLast c s
  pub rests :
      (c : ℕ) (x : Unasked) → unasked_at c s.unasked ≡ Some x → AwaitsAnswer c s ⊎ AwaitsBytes x

-- whatever requests mean, and whatever tells an answer
abbrev pub any_terms : Terms
any_terms = record { IsMeaning = λ (a : Ask). ⊤; IsTelling = λ (g : Given) (r : HttpAnswer). ⊤ }

-- So it is after an input, once all answers were told, if it was before.
abbrev pub InputsRest : Type 0
InputsRest =
    (w : When) (x : Happening) (acts : List Act) (old : Served) (out : List Emission) (new : Served)
    → DoesAll any_terms w acts old out new → IsInOrder x acts
    → KeptInRoom old.core.state → new.core.untaken ≡ [] → AllRest old → AllRest new
