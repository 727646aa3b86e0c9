-- What each call leaves, in one piece: the entries that it adds, in order, and each table after it.
use Rattle.std.specs.Prelude.{◌≡◌, ℕ, ◌+◌, ◌<◌, ◌≤◌, Bool, true, false, not, ◌||◌, nat_lt, List, [], ◌∷◌, ◌++◌, length, map, filter, Option, Some, None, option_map, is_some, Ok, Err, if◌then◌else◌, ⊤}
use Rattle.std.specs.List.{AllByRecursion}
use Rattle.limits.specs.declared.TheConstants.{MAX_DATAGRAM_LEN}
use Rattle.coap_codec.specs.Spelling.{Content}
use Rattle.coap_codec.specs.Reading.{message_at}
use Rattle.coap_codec.specs.declared.fault.CodecFault.{CodecFault}
use Rattle.uri_map.specs.declared.peer.Peer.{Peer}
use Rattle.uri_map.specs.Peers.{same_peer}
use Rattle.message_layer.specs.Values.{LinkState, was_dropped}
use Rattle.message_layer.specs.Calls.{expected}
use Rattle.message_layer.specs.Sending.{due_of, first_sent, waits, submitted, ticked as call_ticked}
use Rattle.message_layer.specs.Hearing.{ignored, verdict_of, replies, reset_for, applied, hears as call_hears}
use Rattle.message_layer.specs.declared.state.Awaited.{Awaited}
use Rattle.message_layer.specs.declared.state.Outstanding.{Outstanding}
use Rattle.message_layer.specs.declared.state.Waiting.{Waiting}
use Rattle.message_layer.specs.declared.verdict.Verdict.{Verdict}
use Rattle.message_layer.specs.declared.state.Reply.TheVariants as R
use Rattle.message_layer.specs.declared.verdict.News.TheVariants as N
use Rattle.observe_share.specs.declared.registration.Registration.{Registration}
use Rattle.observe_share.specs.Watches.{without}
use Rattle.resp_cache.specs.Stored.{Stored}
use Rattle.resp_cache.specs.Stores.{moved}
use Rattle.ask_model.specs.declared.cause.Cause.{Cause}
use Rattle.ask_model.specs.Requests.{CoapRequest, Requests, Refuses}
use Rattle.ask_model.specs.Views.{Ask}
use Rattle.ask_model.specs.Sharing.{asked_key}
use Rattle.ask_model.specs.declared.cause.Cause.TheVariants as C
use Rattle.journal_book.specs.Entries.{Kept, Fault, Deed, Asks, Sends, Hears, Passes, Answers}
use Rattle.exchange_model.specs.declared.kept.Exchange.{Exchange}
use Rattle.exchange_model.specs.Watching.{is_one_of, is_renewed_by, tokens_of, touched_for}
use Rattle.exchange_model.specs.State.{PeerLink, State, link_of, with_link}
use Rattle.exchange_model.specs.Steps.{entered, exchange_for, reader_for, joins, kept_for, stale_for, given_out, went_out}
use Rattle.exchange_model.specs.Matters.{left_by, Matter, Nothing, matter_of}
use Rattle.exchange_model.specs.Hearing.{Numbers, more_by, issued_by, exchanges_by, gone_by, pieces_by, stales_by, store_by, watches_by, is_of_none, is_stale_of_none, is_unwatched, retired, timed_out, goes_on, is_gone}
use Rattle.exchange_model.specs.Calls.{Telling, told_for, told_late, has_place, served_in, IsAlone, joined, asked, heard, something_due, ticked}
use Rattle.exchange_model.specs.Keeping.{MayStep, IsNumbered, MayGoOn}

-- entries one after another
abbrev pub entered_all : ℕ → List Deed → State → State
entered_all t [] S = S
entered_all t (d ∷ ds) S = entered_all t ds (entered t d S)

-- a message that goes out for the first time: its token, and the number of the entry
pub record Going : Type 0 where
  pub token : List ℕ
  pub number : ℕ

abbrev pub going_as : ℕ → Option Waiting → List Going
going_as i None = []
going_as i (Some w) = record { token = w.token; number = i } ∷ []

-- The exchange of each that went out keeps the number of that entry.
abbrev pub sent_as : List Going → List Exchange → List Exchange
sent_as [] es = es
sent_as (g ∷ gs) es = sent_as gs (map (went_out g.token g.number) es)

abbrev pub first_deeds : ℕ → Peer → Option ℕ → Option Waiting → List Deed
first_deeds t p last_mid None = []
first_deeds t p last_mid (Some w) =
    let o = first_sent t last_mid w in Sends p o.datagram (Some o.timeout) ∷ []

-- the message that waits first, where it has its turn
abbrev pub in_turn : Bool → List Waiting → Option Waiting
in_turn false ws = None
in_turn true [] = None
in_turn true (w ∷ ws) = Some w

-- An ask that begins an exchange: its message goes out at once where nothing is outstanding at its
-- endpoint (RFC 7252 section 4.7).
abbrev pub at_once : Waiting → Option Outstanding → Option Waiting
at_once w None = Some w
at_once w (Some o) = None

abbrev pub begin_deeds : ℕ → ℕ → Ask → CoapRequest → Numbers → State → List Deed
begin_deeds t c a q n S =
    let s = link_of S.links q.peer in let w = waits n.token n.text n.word in
    Asks c a ∷ first_deeds t q.peer s.last_mid (at_once w s.outstanding)

abbrev pub begun_exchange : ℕ → Ask → CoapRequest → Numbers → State → Exchange
begun_exchange t a q n S =
    let w = at_once (waits n.token n.text n.word) (link_of S.links q.peer).outstanding in
    let e = exchange_for t a q n.token S in record e {
      sending = option_map (λ (x : Waiting). length S.entries + 1) w;
      awaits = is_some w;
    }

-- Under these tokens nothing is expected any more.
abbrev pub awaits_no_more : List (List ℕ) → LinkState → LinkState
awaits_no_more [] s = s
awaits_no_more (token ∷ tokens) s = awaits_no_more tokens (expected token false s)

abbrev pub begun : ℕ → ℕ → Ask → CoapRequest → Numbers → State → State
begun t c a q n S =
    let w = waits n.token n.text n.word in
    let S1 = entered_all t (begin_deeds t c a q n S) S in record S1 {
      issued = S.issued + 1;
      exchanges = S.exchanges ++ begun_exchange t a q n S ∷ [];
      stales = S.stales ++ stale_for (length S.entries) (kept_for t a q S);
      readers = S.readers ++ reader_for c S ∷ [];
      watches = without (is_renewed_by q) S.watches;
      links = with_link q.peer
          (given_out (awaits_no_more (tokens_of (is_renewed_by q) S.watches)
          (submitted t w (link_of S.links q.peer)))) S.links;
    }

-- one that is refused, or for which there is no place
abbrev pub refusal_deeds : ℕ → Ask → Cause → State → List Deed
refusal_deeds c a cause S =
    Asks c a ∷ Answers c (length S.entries) (Fault cause (length S.entries)) ∷ []

-- what tells it
abbrev pub answer_of : Telling → Deed
answer_of x = Answers x.reader.conn x.reader.ask x.grounds

-- A datagram with this ID and token, heeded as the verdict says: it is answered, the next message
-- goes out where it ends what was outstanding, and the exchange that it ends is told.
abbrev pub confirm : Peer → List ℕ → Deed
confirm p bytes = Sends p bytes None

-- the message that goes out next: the first that waits, where what was outstanding has ended; and
-- the one that is taken in the same step, where nothing waits and nothing is outstanding
abbrev pub is_free : Verdict → LinkState → Bool
is_free v s = v.ends || not (is_some s.outstanding)

abbrev pub next_out : Verdict → LinkState → Option Waiting → Option Waiting
next_out v s None = in_turn v.ends s.waiting
next_out v s (Some w) = in_turn (is_free v s) (s.waiting ++ w ∷ [])

-- What a message is to the exchanges and to what is observed, what is observed after it, the tokens
-- under which nothing is expected any more, and the message that an exchange goes on with.
pub record Effect : Type 0 where
  pub matter : Matter
  pub watches : List Registration
  pub gone : List (List ℕ)
  pub numbers : Numbers

abbrev pub more_of : Effect → Option Waiting
more_of x = more_by x.numbers x.matter

abbrev pub heard_deeds : ℕ → Peer → List ℕ → ℕ → Verdict → Effect → State → List Deed
heard_deeds t p d mid v x S =
    let s = link_of S.links p in
    Hears p d ∷ (map (confirm p) (replies mid v.reply)
    ++ (first_deeds t p s.last_mid (next_out v s (more_of x))
    ++ map answer_of (told_for (length S.entries) x.matter S.readers)))

abbrev pub heard_going : Peer → ℕ → Verdict → Effect → State → List Going
heard_going p mid v x S =
    going_as (length S.entries + 1 + length (replies mid v.reply))
    (next_out v (link_of S.links p) (more_of x))

abbrev pub taken_with : ℕ → Option Waiting → LinkState → LinkState
taken_with t None s = s
taken_with t (Some w) s = submitted t w s

abbrev pub heeded : ℕ → Peer → List ℕ → ℕ → List ℕ → Verdict → Effect → State → State
heeded t p d mid token v x S =
    let s = link_of S.links p in
    let S1 = entered_all t (heard_deeds t p d mid v x S) S in record S1 {
      issued = issued_by x.matter S.issued;
      exchanges =
          sent_as (heard_going p mid v x S)
          (exchanges_by S.entries x.numbers.token x.matter S.exchanges);
      pieces = pieces_by (length S.entries) x.matter S.pieces;
      stales = stales_by x.matter S.stales;
      watches = x.watches;
      store = store_by S.entries t x.matter S.store;
      links = with_link p
          (given_out (awaits_no_more x.gone (taken_with t (more_of x) (applied t mid token v s))))
          S.links;
    }

-- What is no message is reset where it has the ID of a CON, and is nothing else.
abbrev pub garbled : Option ℕ → Verdict
garbled None = ignored
garbled (Some mid) = record { reply = R.Rst; remembered = false; ends = false; news = N.Quiet }

abbrev pub IsMid : Option ℕ → ℕ → Type 0
IsMid None mid = ⊤
IsMid (Some n) mid = mid ≡ n

-- A tick sends at a link a copy that is due, or the next message where one is given up that was
-- sent five times.
abbrev pub link_deeds : ℕ → Peer → LinkState → Option Outstanding → List Deed
link_deeds t p s None = []
link_deeds t p s (Some o) =
    if nat_lt t (due_of o) then [] else
    (if nat_lt o.retransmissions 4 then Sends p o.datagram None ∷ []
    else first_deeds t p s.last_mid (in_turn true s.waiting))

abbrev pub link_going : ℕ → LinkState → Option Outstanding → Option Waiting
link_going t s None = None
link_going t s (Some o) =
    if nat_lt t (due_of o) then None else
    (if nat_lt o.retransmissions 4 then None else in_turn true s.waiting)

-- What bears the token of an exchange that ends is neither awaited nor sent any more.
abbrev pub rid_of : (List ℕ → Bool) → LinkState → LinkState
rid_of gone s = record s {
  waiting = filter (λ (w : Waiting). not (gone w.token)) s.waiting;
  awaited = filter (λ (a : Awaited). not (gone a.token)) s.awaited;
}

abbrev pub rid : (List ℕ → Bool) → PeerLink → LinkState
rid gone x = rid_of gone x.link

abbrev pub turn_deeds : ℕ → (List ℕ → Bool) → PeerLink → List Deed
turn_deeds t gone x = link_deeds t x.peer (rid gone x) x.link.outstanding

-- at each link, in order
abbrev pub all_deeds : ℕ → (List ℕ → Bool) → List PeerLink → List Deed
all_deeds t gone [] = []
all_deeds t gone (x ∷ xs) = turn_deeds t gone x ++ all_deeds t gone xs

-- the next entry has this number
abbrev pub all_going : ℕ → (List ℕ → Bool) → ℕ → List PeerLink → List Going
all_going t gone i [] = []
all_going t gone i (x ∷ xs) =
    going_as i (link_going t (rid gone x) x.link.outstanding)
    ++ all_going t gone (i + length (turn_deeds t gone x)) xs

abbrev pub link_after : ℕ → (List ℕ → Bool) → PeerLink → PeerLink
link_after t gone x = record {
  peer = x.peer;
  link = given_out (call_ticked t (rid gone x)).0;
}

-- A tick enters what is sent at each link, which each turns then, and tells those who wait for what
-- ends; the exchanges that end go.
abbrev pub tick_deeds : ℕ → State → List Deed
tick_deeds t S =
    Passes ∷ (all_deeds t (is_gone t S) S.links
    ++ map answer_of (told_late (timed_out t S) S.readers))

abbrev pub moved_by : ℕ → State → State
moved_by t S =
    let gone = is_gone t S in let S1 = entered_all t (tick_deeds t S) S in record S1 {
      pieces = filter (is_of_none (timed_out t S)) S.pieces;
      stales = filter (is_stale_of_none (timed_out t S)) S.stales;
      exchanges =
          sent_as (all_going t gone (length S.entries + 1) S.links)
          (left_by S.entries (timed_out t S) (filter (goes_on t S) S.exchanges));
      watches = without (is_unwatched t S) S.watches;
      store = retired S.entries (timed_out t S) S.store;
      links = map (link_after t gone) S.links;
    }

-- Each endpoint has one link.
abbrev pub StandsOnce : List PeerLink → Type 0
StandsOnce [] = ⊤
StandsOnce (x ∷ xs) =
    AllByRecursion (λ (y : PeerLink). same_peer x.peer y.peer ≡ false) xs × StandsOnce xs

-- Between two calls each link's datagrams were given out.
pub record IsDrained (S : State) : Type 0 where
  pub once : StandsOnce S.links
  pub out : AllByRecursion (λ (x : PeerLink). x.link.out ≡ []) S.links

-- An ask that begins an exchange leaves just that.
abbrev pub BeginsEnter : Type 0
BeginsEnter =
    (t c : ℕ) (a : Ask) (q : CoapRequest) (n : Numbers) (S : State)
    → MayStep t S → IsDrained S → IsNumbered t a q n S
    → a.sense ≡ Requests q → IsAlone t q S → has_place t q.peer S ≡ true
    → asked t c a n S ≡ begun t c a q n S

-- One that the store answers leaves itself and its answer, and its pair is the first.
abbrev pub ServedEnters : Type 0
ServedEnters =
    (t c : ℕ) (a : Ask) (q : CoapRequest) (n : Numbers) (s : Stored) (S : State)
    → a.sense ≡ Requests q → served_in q t S ≡ Some s
    → asked t c a n S
    ≡ (let k = length S.entries in
    let S1 = entered_all t (Asks c a ∷ Answers c k (Kept s.list) ∷ []) S in record S1 {
      watches = touched_for t q S.watches;
      store = moved (asked_key q) t S.store;
    })

-- One that joins an exchange leaves itself, and who waits.
abbrev pub JoinsEnter : Type 0
JoinsEnter =
    (t c : ℕ) (a : Ask) (q : CoapRequest) (n : Numbers) (e : Exchange) (S : State)
    → a.sense ≡ Requests q → served_in q t S ≡ None → joined q S ≡ Some e
    → asked t c a n S ≡ joins t c a e.opening S

-- Any other is answered at once.
abbrev pub RefusalsEnter : Type 0
RefusalsEnter =
    (t c : ℕ) (a : Ask) (n : Numbers) (cause : Cause) (status : ℕ) (S : State)
    → a.sense ≡ Refuses cause status
    → asked t c a n S ≡ entered_all t (refusal_deeds c a cause S) S

abbrev pub BusyEnters : Type 0
BusyEnters =
    (t c : ℕ) (a : Ask) (q : CoapRequest) (n : Numbers) (S : State)
    → a.sense ≡ Requests q → IsAlone t q S → has_place t q.peer S ≡ false
    → asked t c a n S
    ≡ (let S1 = entered_all t (refusal_deeds c a C.Busy S) S in
    record S1 { watches = touched_for t q S.watches })

-- a datagram of at most 2,048 bytes, from an endpoint to which something was sent
pub record Comes (t : ℕ) (p : Peer) (d : List ℕ) (S : State) : Type 0 where
  pub may : MayStep t S
  pub drained : IsDrained S
  pub known : is_some (link_of S.links p).last_mid ≡ true
  pub short : length d ≤ MAX_DATAGRAM_LEN

-- A message is heeded, also one that repeats another, which is nothing to the exchanges.
abbrev pub effect_of : ℕ → Peer → Content → Verdict → Numbers → State → Effect
effect_of t p m v n S = let x = matter_of t p m v S in record {
  matter = x;
  watches = watches_by t m S.entries x S.watches;
  gone = gone_by m S.entries x S.watches;
  numbers = n;
}

abbrev pub MessageEnters : Type 0
MessageEnters =
    (t : ℕ) (p : Peer) (d : List ℕ) (m : Content) (n : Numbers) (S : State)
    → Comes t p d S → message_at d ≡ Ok m → MayGoOn t p d n S
    → let v = verdict_of t (link_of S.links p) m in
    (v.news ≡ N.Lost → ⊥)
    → heard t p d n S ≡ heeded t p d m.mid m.token v (effect_of t p m v n S) S

-- So is what is no message, whatever its token and the numbers.
abbrev pub no_effect : Numbers → State → Effect
no_effect n S = record { matter = Nothing; watches = S.watches; gone = []; numbers = n }

abbrev pub GarbledEnters : Type 0
GarbledEnters =
    (t : ℕ) (p : Peer) (d : List ℕ) (e : CodecFault) (mid : ℕ) (token : List ℕ) (n : Numbers)
    (S : State)
    → Comes t p d S → message_at d ≡ Err e → IsMid (reset_for d) mid
    → heard t p d n S
    ≡ heeded t p d mid token (garbled (reset_for d)) (no_effect n S) S

-- Where 1,024 are remembered one more is lost, as what is too long or from elsewhere.
abbrev pub LostStays : Type 0
LostStays =
    (t : ℕ) (p : Peer) (d : List ℕ) (m : Content) (n : Numbers) (S : State)
    → message_at d ≡ Ok m → (verdict_of t (link_of S.links p) m).news ≡ N.Lost
    → heard t p d n S ≡ S

abbrev pub UnknownStays : Type 0
UnknownStays =
    (t : ℕ) (p : Peer) (d : List ℕ) (n : Numbers) (S : State)
    → is_some (link_of S.links p).last_mid ≡ false → heard t p d n S ≡ S

abbrev pub LongStays : Type 0
LongStays =
    (t : ℕ) (p : Peer) (d : List ℕ) (n : Numbers) (S : State)
    → MAX_DATAGRAM_LEN < length d → heard t p d n S ≡ S

-- All of this is what the link of the endpoint counts as lost.
abbrev pub DroppedStays : Type 0
DroppedStays =
    (t : ℕ) (p : Peer) (d : List ℕ) (n : Numbers) (S : State)
    → (call_hears t d (link_of S.links p)).1 ≡ was_dropped → heard t p d n S ≡ S

-- A tick leaves just that where something is due; else nothing changes.
abbrev pub TicksEnter : Type 0
TicksEnter =
    (t : ℕ) (S : State) → MayStep t S → IsDrained S → something_due t S ≡ true
    → ticked t S ≡ moved_by t S

abbrev pub TickStays : Type 0
TickStays = (t : ℕ) (S : State) → something_due t S ≡ false → ticked t S ≡ S

-- What is gone is what bears the token of an exchange or a watch that ends then.
abbrev pub token_of : Exchange → List ℕ
token_of e = e.token

abbrev pub gone_tokens : ℕ → State → List (List ℕ)
gone_tokens t S = map token_of (timed_out t S) ++ tokens_of (is_unwatched t S) S.watches

abbrev pub GoneTokens : Type 0
GoneTokens = (t : ℕ) (S : State) → is_gone t S ≡ is_one_of (gone_tokens t S)

-- Each of these leaves a state whose links gave out all.
abbrev pub StaysDrained : Type 0
StaysDrained =
    (t : ℕ) (S : State) → IsDrained S
    → ((c : ℕ) (a : Ask) (q : CoapRequest) (n : Numbers) → IsDrained (begun t c a q n S))
    × ((p : Peer) (d : List ℕ) (mid : ℕ) (token : List ℕ) (v : Verdict) (x : Effect)
    → IsDrained (heeded t p d mid token v x S))
    × IsDrained (moved_by t S)
    × ((ds : List Deed) → IsDrained (entered_all t ds S))
