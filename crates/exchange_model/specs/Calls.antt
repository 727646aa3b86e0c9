-- What each call does: an input, and all that is due because of it.
use Rattle.std.specs.Prelude.{◌≡◌, ℕ, Bool, false, ◌&&◌, ◌||◌, ◌==◌, nat_le, List, [], ◌∷◌, ◌++◌, length, map, filter, filter_map, fold, Option, Some, None, option_map, is_some, unwrap_or, Result, Ok, Err, if◌then◌else◌}
use Rattle.std.specs.List.{find, list_any}
use Rattle.std.specs.Option.{option_map_or}
use Rattle.limits.specs.declared.TheConstants.{MAX_DATAGRAM_LEN}
use Rattle.coap_codec.specs.Spelling.{Content}
use Rattle.coap_codec.specs.Reading.{message_at}
use Rattle.coap_codec.specs.declared.fault.CodecFault.{CodecFault}
use Rattle.uri_map.specs.declared.peer.Peer.{Peer}
use Rattle.message_layer.specs.Values.{LinkState}
use Rattle.message_layer.specs.Sending.{due_of}
use Rattle.message_layer.specs.Hearing.{is_repeat, replies, reset_for, verdict_of}
use Rattle.message_layer.specs.declared.state.Outstanding.{Outstanding}
use Rattle.message_layer.specs.declared.state.Waiting.{Waiting}
use Rattle.message_layer.specs.declared.verdict.News.{News}
use Rattle.message_layer.specs.declared.verdict.Verdict.{Verdict}
use Rattle.message_layer.specs.declared.state.Reply.TheVariants as R
use Rattle.message_layer.specs.declared.verdict.News.TheVariants as N
use Rattle.observe_share.specs.Watches.{is_idle}
use Rattle.resp_cache.specs.Stored.{Stored}
use Rattle.resp_cache.specs.Stores.{served}
use Rattle.ask_model.specs.declared.cause.Cause.{Cause}
use Rattle.ask_model.specs.Requests.{CoapRequest, Sense, Requests, Refuses}
use Rattle.ask_model.specs.Sharing.{asked_key, asks_same, is_get}
use Rattle.ask_model.specs.Views.{Ask}
use Rattle.ask_model.specs.declared.cause.Cause.TheVariants as C
use Rattle.journal_book.specs.Entries.{Grounds, Live, Kept, Fault, Written}
use Rattle.history_laws.specs.Hearing.{is_such}
use Rattle.history_laws.specs.Progress.{numbers, Ending, Whole, Renewed, NotUnderstood, Reset, TimedOut, Turned, Progress}
use Rattle.exchange_model.specs.declared.kept.Exchange.{Exchange}
use Rattle.exchange_model.specs.declared.kept.Reader.{Reader}
use Rattle.exchange_model.specs.State.{PeerLink, State, link_of}
pub use Rattle.exchange_model.specs.Matters.{has_place}
use Rattle.exchange_model.specs.Steps.{asks, answers, begins, joins, recalls, confirms, hears_nothing, sends_first, sends_copy}
use Rattle.exchange_model.specs.Matters.{asked_in, Matter, Goes, Starts, Over, matter_of}
use Rattle.exchange_model.specs.Hearing.{Numbers, hears, expires, timed_out, passes}

-- The message that waits first goes out where nothing is outstanding (RFC 7252 section 4.7).
abbrev pub next_by : ℕ → Peer → Option Outstanding → List Waiting → State → State
next_by t p None (w ∷ ws) S = sends_first t p w ws S
next_by t p None [] S = S
next_by t p (Some o) ws S = S

abbrev pub next : ℕ → Peer → State → State
next t p S = next_by t p (link_of S.links p).outstanding (link_of S.links p).waiting S

-- An ask that is refused, or for which there is no place, is answered in its own step.
abbrev pub refused : ℕ → ℕ → Ask → Cause → State → State
refused t c a cause S =
    answers t c (length S.entries) (Fault cause (length S.entries)) (asks t c a S)

-- the open exchange that a GET joins: that of an equal one, where no write has outrun it
abbrev pub is_joined : List Written → CoapRequest → Exchange → Bool
is_joined ws q e = e.current && option_map_or (asks_same q) (asked_in ws e.ask) false

abbrev pub joined : CoapRequest → State → Option Exchange
joined q S = find (is_joined S.entries q) S.exchanges

abbrev pub asked_with : Option Exchange → ℕ → ℕ → Ask → CoapRequest → Numbers → State → State
asked_with (Some e) t c a q n S = joins t c a e.opening S
asked_with None t c a q n S =
    if has_place t q.peer S then next t q.peer (begins t c a q n.token n.text n.word S)
    else refused t c a C.Busy S

-- the stored response that a GET is served, while it is fresh
abbrev pub served_in : CoapRequest → ℕ → State → Option Stored
served_in q t S = if is_get q then served (asked_key q) t S.store else None

abbrev pub serves : ℕ → ℕ → Ask → CoapRequest → Stored → State → State
serves t c a q s S =
    answers t c (length S.entries) (Kept s.list) (recalls t c a (asked_key q) S)

abbrev pub asked_for : Option Stored → ℕ → ℕ → Ask → CoapRequest → Numbers → State → State
asked_for (Some s) t c a q n S = serves t c a q s S
asked_for None t c a q n S = asked_with (joined q S) t c a q n S

-- Neither the store nor an open exchange answers it.
abbrev pub IsAlone : ℕ → CoapRequest → State → Type 0
IsAlone t q S = (served_in q t S ≡ None) × (joined q S ≡ None)

abbrev pub asked_by : Sense → ℕ → ℕ → Ask → Numbers → State → State
asked_by (Refuses cause status) t c a n S = refused t c a cause S
asked_by (Requests q) t c a n S = asked_for (served_in q t S) t c a q n S

abbrev pub asked : ℕ → ℕ → Ask → Numbers → State → State
asked t c a n S = asked_by a.sense t c a n S

-- ACKs and RSTs are given
abbrev pub given_back : ℕ → Peer → List (List ℕ) → State → State
given_back t p [] S = S
given_back t p (b ∷ bs) S = given_back t p bs (confirms t p b S)

-- who is told what an exchange came to, and on which grounds
pub record Telling : Type 0 where
  pub reader : Reader
  pub grounds : Grounds

abbrev pub tells : ℕ → State → Telling → State
tells t S x = answers t x.reader.conn x.reader.ask x.grounds S

-- All who wait for an exchange that ends are told so, by rising ask.
abbrev pub is_reader_of : Exchange → Reader → Bool
is_reader_of e r = r.opening == e.opening

-- on which grounds the reader is told that its exchange ended so, by the entry with this number:
-- the latest first sending is named where it took too long, or the ask itself where nothing was
-- sent
abbrev pub grounds_for : Ending → ℕ → Option ℕ → Reader → Grounds
grounds_for (Whole w rs) n sending r = Live (numbers rs)
grounds_for (Renewed s u) n sending r = Live (s.list ++ u.number ∷ [])
grounds_for NotUnderstood n sending r = Fault C.NotUnderstood n
grounds_for Reset n sending r = Fault C.Reset n
grounds_for TimedOut n sending r = Fault C.Timeout (unwrap_or sending r.ask)
grounds_for Turned n sending r = Fault C.Busy r.ask

abbrev pub tell_of : Ending → ℕ → Option ℕ → Reader → Telling
tell_of how n sending r = record { reader = r; grounds = grounds_for how n sending r }

abbrev pub told_for : ℕ → Matter → List Reader → List Telling
told_for n (Over e how) rs = map (tell_of how n e.sending) (filter (is_reader_of e) rs)
told_for n matter rs = []

-- A message that is new: it is answered, the next one of the proxy goes out, and what it ends is
-- told.
abbrev pub takes_new : ℕ → Peer → List ℕ → Content → Verdict → Numbers → State → State
takes_new t p d m v n S =
    fold (tells t) (next t p (given_back t p (replies m.mid v.reply) (hears t p d m n S)))
    (told_for (length S.entries) (matter_of t p m v S) S.readers)

-- where 1,024 are remembered one more counts as lost, and is no entry
abbrev pub takes_by : ℕ → Peer → List ℕ → Content → Verdict → Numbers → News → State → State
takes_by t p d m v n N.Lost S = S
takes_by t p d m v n news S = takes_new t p d m v n S

-- one that repeats another is answered as that one was
abbrev pub repeats : ℕ → LinkState → Content → Bool
repeats t s m = is_such m.kind && is_some (find (is_repeat t m.mid) s.heard)

abbrev pub takes : ℕ → Peer → List ℕ → Content → Verdict → Numbers → State → State
takes t p d m v n S =
    if repeats t (link_of S.links p) m
    then given_back t p (replies m.mid v.reply) (hears_nothing t p d S)
    else takes_by t p d m v n v.news S

abbrev pub resets : Option ℕ → List (List ℕ)
resets None = []
resets (Some mid) = replies mid R.Rst

abbrev pub reads_so : ℕ → Peer → List ℕ → Numbers → Result Content CodecFault → State → State
reads_so t p d n (Ok m) S = takes t p d m (verdict_of t (link_of S.links p) m) n S
reads_so t p d n (Err e) S = given_back t p (resets (reset_for d)) (hears_nothing t p d S)

-- A datagram above 2,048 bytes, or from an endpoint to which nothing was sent, counts as lost.
abbrev pub heard : ℕ → Peer → List ℕ → Numbers → State → State
heard t p d n S =
    if is_some (link_of S.links p).last_mid && nat_le (length d) MAX_DATAGRAM_LEN
    then reads_so t p d n (message_at d) S else S

-- The exchange that goes on by the datagram, or begins, and how: where it brings a new message that
-- is a reply to it, or the first piece of an update.
abbrev pub goes_with : Matter → Option (Exchange × Progress)
goes_with (Goes e progress) = Some (e, progress)
goes_with (Starts r e progress) = Some (e, progress)
goes_with matter = None

abbrev pub goes_as : ℕ → Peer → Result Content CodecFault → State → Option (Exchange × Progress)
goes_as t p (Err fault) S = None
goes_as t p (Ok m) S =
    if repeats t (link_of S.links p) m then None
    else goes_with (matter_of t p m (verdict_of t (link_of S.links p) m) S)

abbrev pub goes_by : ℕ → Peer → List ℕ → State → Option (Exchange × Progress)
goes_by t p d S = goes_as t p (message_at d) S

-- A tick does what is due, and leaves no entry where nothing is: a copy, an end, a message given
-- up, or a watch for what nobody asks any more.
abbrev pub is_due : ℕ → Option Outstanding → Bool
is_due t None = false
is_due t (Some o) = nat_le (due_of o) t

abbrev pub link_due : ℕ → PeerLink → Bool
link_due t x = is_due t x.link.outstanding

abbrev pub something_due : ℕ → State → Bool
something_due t S =
    list_any (link_due t) S.links
    || (list_any (expires t S.links) S.exchanges || list_any (is_idle t) S.watches)

-- At each endpoint a copy goes out that is due, or the next message where one was given up.
abbrev pub moves_by : ℕ → Peer → Option Outstanding → State → State
moves_by t p None S = next t p S
moves_by t p (Some o) S = if is_due t (Some o) then sends_copy t p o S else S

abbrev pub moves : ℕ → State → Peer → State
moves t S p = moves_by t p (link_of S.links p).outstanding S

abbrev pub peer_of : PeerLink → Peer
peer_of x = x.peer

abbrev pub move_all : ℕ → State → State
move_all t S = fold (moves t) S (map peer_of S.links)

-- All who wait for exchanges that end so are told, by rising ask.
abbrev pub timeout_for : Reader → Exchange → Telling
timeout_for r e = tell_of TimedOut 0 e.sending r

abbrev pub read_by : List Exchange → Reader → Option Exchange
read_by es r = find (λ (e : Exchange). is_reader_of e r) es

abbrev pub late_for : List Exchange → Reader → Option Telling
late_for es r = option_map (timeout_for r) (read_by es r)

abbrev pub told_late : List Exchange → List Reader → List Telling
told_late es rs = filter_map (late_for es) rs

abbrev pub ticked : ℕ → State → State
ticked t S =
    if something_due t S
    then fold (tells t) (move_all t (passes t S)) (told_late (timed_out t S) S.readers) else S
