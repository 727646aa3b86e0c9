-- What a journal begins with that answers may rest on: copies of asks, of the messages that were
-- sent for them, and of the replies.
use Rattle.std.specs.Prelude.{◌≡◌, ℕ, Bool, true, List, [], ◌∷◌, ◌++◌, length, find, Option, Some, None, ◌==◌, if◌then◌else◌}
use Rattle.coap_codec.specs.Spelling.{Content}
use Rattle.uri_map.specs.declared.peer.Peer.{Peer}
use Rattle.ask_model.specs.Requests.{CoapRequest, Sense, Requests, Refuses}
use Rattle.ask_model.specs.Sharing.{is_get}
use Rattle.journal_book.specs.Entries.{Ground, Deed, Carries}
use Rattle.journal_book.specs.Entries as D
use Rattle.history_laws.specs.Responses.{Response, whole_of}
use Rattle.history_laws.specs.Readings.{Noted, Note, Recalls}
use Rattle.history_laws.specs.Progress.{Reply, messages}
use Rattle.history_laws.specs.Transmissions.{FirstSending, firsts}
use Rattle.history_laws.specs.Exchanges.{Begun, begun_by}
use Rattle.history_laws.specs.Hearing.{went_under}

-- what the ask was for that an entry copies, and when it was asked
abbrev pub asked_for : Sense → Option CoapRequest
asked_for (Requests q) = Some q
asked_for (Refuses cause status) = None

abbrev pub carried_by : Deed → Option CoapRequest
carried_by (Carries k Ground (D.Asked c a)) = asked_for a.sense
carried_by _ = None

abbrev pub carried : List Noted → ℕ → Option Begun
carried [] o = None
carried (x ∷ older) o =
    begun_by (carried_by x.written.deed) (length older == o) x.written.moment (carried older o)

-- the copy of the message under whose token a reply came
abbrev pub is_replied_by : Peer → Content → FirstSending → Bool
is_replied_by p m f = went_under p m.token (Some f)

abbrev pub replied_by : List Noted → Peer → Content → Option FirstSending
replied_by l p m = find (is_replied_by p m) (firsts l)

-- the replies that are copied of those to an ask's messages, in order
abbrev pub reply_to : ℕ → ℕ → Content → Option FirstSending → List Reply → List Reply
reply_to o n m None old = old
reply_to o n m (Some f) old =
    if f.opening == o then old ++ record { number = n; sending = f.number; message = m } ∷ []
    else old

abbrev pub carried_replies_by : List Noted → ℕ → Deed → Note → List Reply → List Reply
carried_replies_by l o (Carries k Ground (D.Heard p b)) (Recalls m answer) old =
    reply_to o (length l) m (replied_by l p m) old
carried_replies_by l o _ _ old = old

abbrev pub carried_replies : List Noted → ℕ → List Reply
carried_replies [] o = []
carried_replies (x ∷ older) o =
    carried_replies_by older o x.written.deed x.note (carried_replies older o)

-- They are a whole response to what the ask was for.
pub record CarriesSo (l : List Noted) (o : ℕ) (w : Response) (rs : List Reply) : Type 0 where
  pub exchange : Begun
  pub asked : carried l o ≡ Some exchange
  pub get : is_get exchange.request ≡ true
  pub replies : carried_replies l o ≡ rs
  pub whole : whole_of exchange.request (messages rs) ≡ Some w
