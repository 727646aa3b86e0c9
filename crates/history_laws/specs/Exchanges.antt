-- What the history says of an exchange, by the number of the entry that opened it.
use Rattle.std.specs.Prelude.{ℕ, ◌+◌, Bool, true, false, ◌&&◌, ◌||◌, List, [], ◌∷◌, ◌++◌, length, filter, filter_map, Option, Some, None, is_none, is_some, ◌==◌, nat_le, if◌then◌else◌}
use Rattle.std.specs.Option.{option_map_or}
use Rattle.std.specs.List.{list_any}
use Rattle.limits.specs.declared.TheConstants.{MAX_TRANSMIT_WAIT}
use Rattle.coap_codec.specs.declared.message.MsgType.{MsgType}
use Rattle.coap_codec.specs.declared.message.MsgType.TheVariants.{Rst}
use Rattle.coap_codec.specs.Spelling.{Content}
use Rattle.uri_map.specs.declared.peer.Peer.{Peer}
use Rattle.uri_map.specs.Peers.{same_peer}
use Rattle.ask_model.specs.Requests.{CoapRequest}
use Rattle.journal_book.specs.Entries.{Deed, Sends, Hears, Passes}
use Rattle.resp_cache.specs.Stored.{Stored}
use Rattle.history_laws.specs.Responses.{confirms}
use Rattle.history_laws.specs.Readings.{Noted, Note, Begins, Renews, First, Says, Observation, Starts, before}
use Rattle.history_laws.specs.Progress.{Reply, Ending, Renewed, NotUnderstood, Reset, TimedOut, progress, ended_by}
use Rattle.history_laws.specs.Transmissions.{transmission, given_up}

-- when it was opened, and for what
pub record Begun : Type 0 where
  pub since : ℕ
  pub request : CoapRequest

abbrev pub started_by : Observation → Option CoapRequest
started_by (Starts k q) = Some q
started_by _ = None

-- An ask opens one, or a notification whose rest is fetched.
abbrev pub opens_by : Note → Option CoapRequest
opens_by (Begins q) = Some q
opens_by (Renews q s) = Some q
opens_by (Says m to notice) = started_by notice.observation
opens_by _ = None

abbrev pub begun_by : Option CoapRequest → Bool → ℕ → Option Begun → Option Begun
begun_by None here t old = old
begun_by (Some q) here t old = if here then Some (record { since = t; request = q }) else old

abbrev pub begun : List Noted → ℕ → Option Begun
begun [] o = None
begun (x ∷ older) o =
    begun_by (opens_by x.note) (length older == o) x.written.moment (begun older o)

-- what it keeps from its opening on
abbrev pub kept_by : Note → Option Stored
kept_by (Renews q s) = Some s
kept_by _ = None

abbrev pub kept : List Noted → ℕ → Option Stored
kept [] o = None
kept (x ∷ older) o = if length older == o then kept_by x.note else kept older o

-- what it begins with: the first piece, where a notification opened it
abbrev pub starts_with : ℕ → Content → Option CoapRequest → Option ℕ → List Reply
starts_with n m (Some q) (Some i) = record { number = n; sending = i; message = m } ∷ []
starts_with n m opened to = []

abbrev pub begins_by : ℕ → Note → List Reply
begins_by n (Says m to notice) = starts_with n m (started_by notice.observation) to
begins_by n note = []

abbrev pub begins_with : List Noted → ℕ → List Reply
begins_with [] o = []
begins_with (x ∷ older) o =
    if length older == o then begins_by o x.note else begins_with older o

-- the ask that it goes back to: the one that opened it, or by which the proxy became an observer
abbrev pub asked_in : ℕ → Observation → ℕ
asked_in o (Starts k q) = k
asked_in o observation = o

abbrev pub ask_by : ℕ → Note → ℕ
ask_by o (Says m to notice) = asked_in o notice.observation
ask_by o note = o

abbrev pub ask_behind : List Noted → ℕ → ℕ
ask_behind [] o = o
ask_behind (x ∷ older) o = if length older == o then ask_by o x.note else ask_behind older o

-- the openings, in order
abbrev pub opened_by : ℕ → Option CoapRequest → List ℕ → List ℕ
opened_by n (Some q) old = old ++ n ∷ []
opened_by n None old = old

abbrev pub openings : List Noted → List ℕ
openings [] = []
openings (x ∷ older) = opened_by (length older) (opens_by x.note) (openings older)

-- it has been open for as long as it may
abbrev pub late_by : ℕ → Begun → Bool
late_by t b = nat_le (b.since + MAX_TRANSMIT_WAIT) t

abbrev pub is_late : ℕ → Option Begun → Bool
is_late t b = option_map_or (late_by t) b false

-- what an entry is to an exchange
pub data Turn : Type 0 where
  Nothing : Turn
  -- the first sending of its next message
  Sent : (sending : ℕ) → Turn
  -- a reply to it, and whether there is a place for what comes next
  Replied : (sending : ℕ) → (message : Content) → (place : Bool) → Turn
  -- a Reset message to it
  Rejected : Turn
  -- its latest message is given up, or it has been open for as long as it may
  Expired : Turn

-- What answers its latest message is a turn of it: all but an empty ACK.
abbrev pub answered_by : ℕ → Content → Bool → MsgType → Turn
answered_by i m place Rst = Rejected
answered_by i m place kind = if nat_le 32 m.code then Replied i m place else Nothing

abbrev pub heard_turn : ℕ → Content → Bool → Option ℕ → Turn
heard_turn i m place None = Nothing
heard_turn i m place (Some waits) = if waits == i then answered_by i m place m.kind else Nothing

abbrev pub expires : List Noted → ℕ → ℕ → Option ℕ → Bool
expires l o t None = is_late t (begun l o)
expires l o t (Some i) = is_late t (begun l o) || given_up t (transmission l i)

abbrev pub turn_by : List Noted → ℕ → ℕ → Deed → Note → Option ℕ → Turn
turn_by l o t (Sends p b w) (First q m) waits = if q == o then Sent (length l) else Nothing
turn_by l o t (Hears p b) (Says m (Some i) notice) waits = heard_turn i m notice.place waits
turn_by l o t Passes note waits = if expires l o t waits then Expired else Nothing
turn_by l o t _ _ waits = Nothing

-- the first sending of the exchange that waits for a reply: none once it has ended
abbrev pub waits_by : Turn → Option ℕ → Option ℕ
waits_by (Sent i) old = Some i
waits_by (Replied i m place) old = None
waits_by Rejected old = None
waits_by Expired old = None
waits_by Nothing old = old

abbrev pub waits_step : List Noted → ℕ → Noted → Option ℕ → Option ℕ
waits_step l o x old = waits_by (turn_by l o x.written.moment x.written.deed x.note old) old

abbrev pub waits_for : List Noted → ℕ → Option ℕ
waits_for [] o = None
waits_for (x ∷ older) o = waits_step older o x (waits_for older o)

-- what the entry is to the exchange, after this history
abbrev pub turn : List Noted → ℕ → Noted → Turn
turn l o x = turn_by l o x.written.moment x.written.deed x.note (waits_for l o)

-- the replies to the exchange, in order
abbrev pub replies_by : ℕ → Turn → List Reply → List Reply
replies_by n (Replied i m place) old = old ++ record { number = n; sending = i; message = m } ∷ []
replies_by n _ old = old

abbrev pub replies : List Noted → ℕ → List Reply
replies [] o = []
replies (x ∷ older) o = replies_by (length older) (turn older o x) (replies older o)

-- all that was heard for it: what it begins with, and the replies
abbrev pub heard_for : List Noted → ℕ → List Reply
heard_for l o = begins_with l o ++ replies l o

-- the entry that ended it, and how: the first that does
pub record End : Type 0 where
  pub number : ℕ
  pub how : Ending

-- How the exchange ends by these replies, if it does: none is understood where nothing was asked.
abbrev pub replied_end : Option Begun → Bool → List Reply → Option Ending
replied_end None place rs = Some NotUnderstood
replied_end (Some b) place rs = ended_by place (progress b.request rs)

-- By the first reply it ends so, where that says that what it keeps is valid still, and else as
-- said here.
abbrev pub unless_renewed : Option Stored → List Reply → Reply → Option Ending → Option Ending
unless_renewed (Some s) [] r other =
    if confirms s.response.etag r.message then Some (Renewed s r) else other
unless_renewed old rs r other = other

-- how it ends by this turn of the entry with this number, if it does
abbrev pub end_here : Option Begun → Option Stored → ℕ → List Reply → Turn → Option Ending
end_here b old n rs (Replied i m place) =
    unless_renewed old rs (record { number = n; sending = i; message = m })
    (replied_end b place (rs ++ record { number = n; sending = i; message = m } ∷ []))
end_here b old n rs Rejected = Some Reset
end_here b old n rs Expired = Some TimedOut
end_here b old n rs _ = None

abbrev pub or_else : Option End → End → Option End
or_else (Some e) other = Some e
or_else None other = Some other

abbrev pub end_by : Option Ending → ℕ → Option End → Option End
end_by None n old = old
end_by (Some how) n old = or_else old (record { number = n; how = how })

abbrev pub end_of : List Noted → ℕ → Option End
end_of [] o = None
end_of (x ∷ older) o =
    end_by
    (end_here (begun older o) (kept older o) (length older) (heard_for older o) (turn older o x))
    (length older) (end_of older o)

abbrev pub is_going : List Noted → ℕ → Bool
is_going l o = is_none (end_of l o)

-- the exchanges that are open, in the order of their openings
abbrev pub open_exchanges : List Noted → List ℕ
open_exchanges l = filter (is_going l) (openings l)

-- the first sendings that a reply is awaited to
abbrev pub awaited : List Noted → List ℕ
awaited l = filter_map (waits_for l) (openings l)

-- An exchange waits at its peer while its next message isn't sent: since its opening, or its last
-- reply.
abbrev pub goes_to : Peer → Option Begun → Bool
goes_to p b = option_map_or (λ (b : Begun). same_peer b.request.peer p) b false

abbrev pub is_waiting : List Noted → Peer → ℕ → Bool
is_waiting l p o = goes_to p (begun l o) && (is_going l o && is_none (waits_for l o))

-- Its next message is submitted by its opening, or by its last reply.
abbrev pub submitted_by : ℕ → List Reply → ℕ
submitted_by o [] = o
submitted_by o (r ∷ rs) = submitted_by r.number rs

abbrev pub submitted : List Noted → ℕ → ℕ
submitted l o = submitted_by o (replies l o)

-- Those that wait at the peer, first come, first served: a message waits after those that were
-- submitted before.
abbrev pub is_submitted_at : List Noted → Peer → ℕ → ℕ → Bool
is_submitted_at l p n o = (submitted l o == n) && is_waiting l p o

abbrev pub waiting_after : List Noted → Peer → ℕ → List ℕ → List ℕ
waiting_after l p n old = filter (is_waiting l p) old ++ filter (is_submitted_at l p n) (openings l)

abbrev pub waiting : List Noted → Peer → List ℕ
waiting [] p = []
waiting (x ∷ older) p = waiting_after (x ∷ older) p (length older) (waiting older p)

-- How many tokens were issued: each message that is submitted has one of its own.
abbrev pub is_issued_at : List Noted → ℕ → ℕ → Bool
is_issued_at l n o = (submitted l o == n) && is_going l o

abbrev pub issued_by : Bool → ℕ → ℕ
issued_by true old = old + 1
issued_by false old = old

abbrev pub issued : List Noted → ℕ
issued [] = 0
issued (x ∷ older) =
    issued_by (list_any (is_issued_at (x ∷ older) (length older)) (openings (x ∷ older)))
    (issued older)

-- how many were issued before the next message of an exchange was submitted
abbrev pub rank : List Noted → ℕ → ℕ
rank l o = issued (before l (submitted l o))
