-- What a datagram is: what it repeats, and which first sending it answers.
use Rattle.std.specs.Prelude.{◌≡◌, ⊤, ℕ, ◌+◌, ◌-◌, Bool, true, false, not, ◌&&◌, ◌||◌, List, [], ◌∷◌, ◌++◌, length, find, Option, Some, None, option_map, option_to_list, is_some, ◌==◌, nat_le, nat_lt, if◌then◌else◌}
use Rattle.std.specs.List.{list_any}
use Rattle.std.specs.Str.{bytes_eq}
use Rattle.limits.specs.declared.TheConstants.{EXCHANGE_LIFETIME, MAX_EXCHANGES, MAX_MESSAGE_IDS, MAX_REMEMBERED, MAX_WAITING}
use Rattle.coap_codec.specs.declared.message.MsgType.{MsgType}
use Rattle.coap_codec.specs.declared.message.MsgType.TheVariants.{Con, Non, Ack, Rst}
use Rattle.coap_codec.specs.Spelling.{Content}
use Rattle.uri_map.specs.declared.peer.Peer.{Peer}
use Rattle.uri_map.specs.Peers.{same_peer}
use Rattle.ask_model.specs.Requests.{CoapRequest}
use Rattle.ask_model.specs.Sharing.{asked_place}
use Rattle.journal_book.specs.Entries.{Deed, Hears, Carries}
use Rattle.journal_book.specs.Entries as D
use Rattle.observe_share.specs.declared.notice.Notice as Shared
use Rattle.observe_share.specs.declared.notice.Notice.TheVariants.{Update, Other}
use Rattle.observe_share.specs.declared.registration.Registration.{Registration}
use Rattle.observe_share.specs.Watches.{counts_for}
use Rattle.history_laws.specs.Readings.{Noted, Note, Says, Recalls, Notice, Observation, Unobserved, Registers, Updates, Outdates, Starts, Cancels}
use Rattle.history_laws.specs.Progress.{Progress, Ends}
use Rattle.history_laws.specs.Transmissions.{FirstSending, first_at, last_sent, outstanding, transmission, mids_used}
use Rattle.history_laws.specs.Exchanges.{Begun, begun, waits_for, open_exchanges, awaited, waiting}
use Rattle.history_laws.specs.Joining.{outrun, asks_the_same}
use Rattle.history_laws.specs.Observing.{Watch, watches, watched, watch_under, most_watches, observes, notice_in, as_first}

-- A CON or NON that is heard at this moment, from this peer and with this ID, repeats one that was
-- heard less than EXCHANGE_LIFETIME before and repeats none (RFC 7252 section 4.5).
abbrev pub is_such : MsgType → Bool
is_such Con = true
is_such Non = true
is_such _ = false

abbrev pub is_live : ℕ → Peer → ℕ → Deed → Note → Bool
is_live t p s (Hears q b) (Says m to notice) =
    is_such m.kind && (same_peer q p && nat_lt t (s + EXCHANGE_LIFETIME))
is_live t p s (Carries k mark (D.Heard q b)) (Recalls m answer) =
    is_such m.kind && (same_peer q p && nat_lt t (s + EXCHANGE_LIFETIME))
is_live t p s _ _ = false

abbrev pub bears : ℕ → Note → Bool
bears mid (Says m to notice) = m.mid == mid
bears mid (Recalls m answer) = m.mid == mid
bears mid _ = false

abbrev pub is_like : ℕ → Peer → ℕ → Noted → Bool
is_like t p mid x = is_live t p x.written.moment x.written.deed x.note && bears mid x.note

abbrev pub heard_before : List Noted → ℕ → Peer → ℕ → Option ℕ
heard_before [] t p mid = None
heard_before (x ∷ older) t p mid =
    if is_like t p mid x then Some (length older) else heard_before older t p mid

abbrev pub repeated : List Noted → ℕ → Peer → Content → Option ℕ
repeated l t p m = if is_such m.kind then heard_before l t p m.mid else None

-- Something was sent to the peer: in this history, or before it where what it said is recalled.
abbrev pub recalls_by : Peer → Deed → Note → Bool
recalls_by p (Carries k mark (D.Heard q b)) (Recalls m answer) = same_peer q p
recalls_by p _ _ = false

abbrev pub recalls : Peer → Noted → Bool
recalls p x = recalls_by p x.written.deed x.note

abbrev pub knows : List Noted → Peer → Bool
knows l p = is_some (last_sent l p) || list_any (recalls p) l

-- How many from the peer may be repeated; a new CON or NON is taken only where it can be
-- remembered too.
abbrev pub live_heard : List Noted → ℕ → Peer → ℕ
live_heard [] t p = 0
live_heard (x ∷ older) t p =
    if is_live t p x.written.moment x.written.deed x.note then live_heard older t p + 1
    else live_heard older t p

abbrev pub can_be_remembered : List Noted → ℕ → Peer → Content → Bool
can_be_remembered l t p m = not (is_such m.kind) || nat_lt (live_heard l t p) MAX_REMEMBERED

-- the first sending with this number went to the peer under the token, or with the ID
abbrev pub went_under : Peer → List ℕ → Option FirstSending → Bool
went_under p token None = false
went_under p token (Some f) = same_peer f.peer p && bytes_eq f.message.token token

abbrev pub went_as : Peer → ℕ → Option FirstSending → Bool
went_as p mid None = false
went_as p mid (Some f) = same_peer f.peer p && (f.message.mid == mid)

abbrev pub is_under : List Noted → Peer → Content → ℕ → Bool
is_under l p m i = went_under p m.token (first_at l i)

abbrev pub is_as : List Noted → Peer → Content → ℕ → Bool
is_as l p m i = went_as p m.mid (first_at l i)

-- the first sendings to which a reply is awaited, or notifications come
abbrev pub expected : List Noted → List ℕ
expected l = awaited l ++ watched l

abbrev pub open_at : List Noted → Peer → List ℕ
open_at l p = option_to_list (option_map (λ (f : FirstSending). f.number) (outstanding l p))

-- The first sending that a message answers, by its kind, and whether it is empty or a response. A
-- response bears the token; in an ACK it bears the ID too, and so does an empty ACK or RST (RFC
-- 7252 sections 4.2, 5.3.2).
abbrev pub answers_by : List Noted → Peer → Content → MsgType → Bool → Bool → Option ℕ
answers_by l p m Con empty true = find (is_under l p m) (expected l)
answers_by l p m Non empty true = find (is_under l p m) (expected l)
answers_by l p m Ack empty true =
    find (λ (i : ℕ). is_under l p m i && is_as l p m i) (awaited l ++ open_at l p)
answers_by l p m Ack true response = find (is_as l p m) (open_at l p)
answers_by l p m Rst true response = find (is_as l p m) (open_at l p)
answers_by l p m kind empty response = None

abbrev pub answers : List Noted → Peer → Content → Option ℕ
answers l p m = answers_by l p m m.kind (m.code == 0) (nat_le 32 m.code)

-- a piggybacked response has the ID of the request, a separate one any, and a RST is no response
abbrev pub IsReplyKind : MsgType → ℕ → ℕ → Type 0
IsReplyKind Con mid sent = ⊤
IsReplyKind Non mid sent = ⊤
IsReplyKind Ack mid sent = mid ≡ sent
IsReplyKind Rst mid sent = ⊥

-- Where the message was outstanding that is answered, the first that waits at the peer goes out.
-- After that, what the exchange sends next finds a place among those that wait, and a message ID.
abbrev pub let_go : List Noted → ℕ → ℕ
let_go l i = if is_some (transmission l i) then 1 else 0

abbrev pub has_place : List Noted → ℕ → Peer → Option ℕ → Bool
has_place l t p None = true
has_place l t p (Some i) =
    nat_lt (length (waiting l p) - let_go l i) MAX_WAITING
    && nat_lt (mids_used l t p + length (waiting l p)) MAX_MESSAGE_IDS

-- By its first reply an exchange registers the proxy as an observer, where it asked for that, the
-- reply is an update, no write outran it, and one resource more may be observed (RFC 7641 section
-- 4.1).
abbrev pub is_update : Shared.Notice → Bool
is_update (Update v) = true
is_update (Other v) = false

abbrev pub is_free : List Noted → ℕ → Option Begun → Bool
is_free l o None = false
is_free l o (Some b) =
    not (outrun l (asked_place b.request) o) && nat_lt (length (watches l)) most_watches

abbrev pub may_register : List Noted → ℕ → Content → Bool
may_register l o m = observes l o && (is_update (notice_in m) && is_free l o (begun l o))

abbrev pub registers : Bool → Observation
registers true = Registers
registers false = Unobserved

-- There is room for one exchange more: a place among the open ones, one among those that wait at
-- its peer, and a message ID.
abbrev pub has_room : List Noted → ℕ → CoapRequest → Bool
has_room l t q =
    nat_lt (length (open_exchanges l)) MAX_EXCHANGES
    && (nat_lt (length (waiting l q.peer)) MAX_WAITING
    && nat_lt (mids_used l t q.peer + length (waiting l q.peer)) MAX_MESSAGE_IDS)

-- The rest of what a notification brings the first piece of is fetched where there is room for
-- that, and no exchange of an equal GET is open, whether a write has outrun it or not.
abbrev pub is_read : List Noted → CoapRequest → Bool
is_read l q = list_any (λ (o : ℕ). asks_the_same q (begun l o)) (open_exchanges l)

abbrev pub starts_for : List Noted → ℕ → ℕ → Option Begun → Observation
starts_for l t k None = Outdates
starts_for l t k (Some b) =
    if has_room l t b.request && not (is_read l b.request)
    then Starts k b.request else Outdates

-- A CON or NON under the token of a watch is a notification. It counts where it is newer than what
-- counted last (RFC 7641 section 3.4).
abbrev pub counts_as :
    List Noted → ℕ → Registration → Shared.Notice → Progress → Observation
counts_as l t r (Other v) progress = Cancels
counts_as l t r (Update v) (Ends how) = Updates
counts_as l t r (Update v) progress = starts_for l t r.opening (begun l r.opening)

abbrev pub notified : List Noted → ℕ → Content → Option Watch → Observation
notified l t m None = Unobserved
notified l t m (Some w) =
    if is_such m.kind && counts_for (notice_in m) t w.held
    then counts_as l t w.held (notice_in m) (as_first 0 0 m) else Unobserved

abbrev pub is_this : ℕ → Option ℕ → Bool
is_this i None = false
is_this i (Some j) = j == i

abbrev pub observation_by : List Noted → ℕ → Content → ℕ → Option FirstSending → Observation
observation_by l t m i None = Unobserved
observation_by l t m i (Some f) =
    if is_this i (waits_for l f.opening) then registers (may_register l f.opening m)
    else notified l t m (watch_under l m.token)

abbrev pub observation_of : List Noted → ℕ → Content → Option ℕ → Observation
observation_of l t m None = Unobserved
observation_of l t m (Some i) =
    if nat_le 32 m.code then observation_by l t m i (first_at l i) else Unobserved

-- what comes of it
abbrev pub notice_of : List Noted → ℕ → Peer → Content → Option ℕ → Notice
notice_of l t p m to =
    record { place = has_place l t p to; observation = observation_of l t m to }
