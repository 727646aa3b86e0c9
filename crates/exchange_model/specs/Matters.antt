-- What a message is to a state: which exchange it answers, and how far that comes by it; what it
-- tells of what is observed.
use Rattle.std.specs.Prelude.{◌≡◌, ℕ, ◌-◌, true, Bool, not, option_map, ◌&&◌, List, [], ◌∷◌, ◌++◌, length, map, filter, filter_map, find, nat_lt, slice_get, Option, Some, None, option_and_then, false, ◌==◌, if◌then◌else◌}
use Rattle.std.specs.List.{list_any}
use Rattle.std.specs.Option.{option_map_or}
use Rattle.limits.specs.declared.TheConstants.{MAX_EXCHANGES, MAX_MESSAGE_IDS, MAX_WAITING}
use Rattle.coap_codec.specs.Spelling.{Content}
use Rattle.uri_map.specs.declared.peer.Peer.{Peer}
use Rattle.message_layer.specs.Sending.{mids_in_use}
use Rattle.message_layer.specs.declared.verdict.Verdict.{Verdict}
use Rattle.message_layer.specs.declared.verdict.News.{News}
use Rattle.message_layer.specs.declared.verdict.News.TheVariants as N
use Rattle.cache_key.specs.Digests.{digests_of}
use Rattle.cache_key.specs.Keys.{CacheKey, same_key}
use Rattle.observe_share.specs.declared.registration.Registration.{Registration}
use Rattle.observe_share.specs.declared.notice.Notice.{Notice}
use Rattle.observe_share.specs.declared.notice.Notice.TheVariants.{Update, Other}
use Rattle.observe_share.specs.Watches as Watches
use Rattle.resp_cache.specs.Stored.{Stored, stored_of}
use Rattle.ask_model.specs.Requests.{CoapRequest, Sense, Requests, Refuses}
use Rattle.ask_model.specs.Sharing.{asked_key, asked_place, is_get, writes_to}
use Rattle.journal_book.specs.Entries.{Deed, Asks, Written}
use Rattle.blockwise.specs.Downloads.{no_pieces}
use Rattle.history_laws.specs.Responses.{Response, confirms as confirms_tag, renewed_response}
use Rattle.history_laws.specs.Progress.{Reply, numbers, Ending, Whole, Renewed, Reset, Turned, Progress, Fetches, Gives, Ends, step}
use Rattle.history_laws.specs.Storing.{content}
use Rattle.history_laws.specs.Observing.{as_first, notice_in}
use Rattle.history_links.specs.Steps.{ended_token}
use Rattle.exchange_model.specs.declared.kept.Exchange.{Exchange}
use Rattle.exchange_model.specs.declared.kept.Piece.{Piece}
use Rattle.exchange_model.specs.declared.kept.Stale.{Stale}
use Rattle.exchange_model.specs.declared.kept.Work.{Work}
use Rattle.exchange_model.specs.declared.kept.Work.TheVariants as W
use Rattle.exchange_model.specs.State.{State, link_of}
use Rattle.exchange_model.specs.Watching.{counts_to}
use Rattle.exchange_model.specs.Steps.{reply_at, heard_in, is_under}

-- What an exchange was opened for stands in the entries, at its ask.
abbrev pub request_in : Sense → Option CoapRequest
request_in (Requests q) = Some q
request_in (Refuses cause status) = None

abbrev pub request_by : Deed → Option CoapRequest
request_by (Asks c a) = request_in a.sense
request_by _ = None

abbrev pub asked_in : List Written → ℕ → Option CoapRequest
asked_in ws k = option_and_then (λ (w : Written). request_by w.deed) (slice_get ws k)

-- Its digests are those of what it was opened for.
abbrev pub IsDigested : List Written → Exchange → Type 0
IsDigested ws e =
    (q : CoapRequest) → asked_in ws e.ask ≡ Some q → digests_of (asked_key q) ≡ e.digests

-- A write that ends outruns the other exchanges of its place.
abbrev pub outruns : List Written → Option CoapRequest → Exchange → Bool
outruns ws None w = false
outruns ws (Some q) w = option_map_or (writes_to (asked_place q)) (asked_in ws w.ask) false

abbrev pub outrun_by : List Written → List Exchange → Exchange → Exchange
outrun_by ws over e =
    if list_any (outruns ws (asked_in ws e.ask)) over then record e { current = false } else e

abbrev pub left_by : List Written → List Exchange → List Exchange → List Exchange
left_by ws over es = map (outrun_by ws over) es

-- A message that is new is a reply to the exchange whose token its link says is awaited no more.
abbrev pub answered_in : Option (List ℕ) → List Exchange → Option Exchange
answered_in None es = None
answered_in (Some token) es = find (is_under token) es

abbrev pub is_other : List ℕ → Exchange → Bool
is_other token e = not (is_under token e)

-- The replies by which an exchange goes on, by the entries in which they were heard.
abbrev pub is_piece_of : ℕ → Piece → Bool
is_piece_of o x = x.opening == o

abbrev pub numbers_of : ℕ → List Piece → List ℕ
numbers_of o xs = map (λ (x : Piece). x.number) (filter (is_piece_of o) xs)

abbrev pub fetched_in : List Written → ℕ → List Piece → List Reply
fetched_in ws o xs = filter_map (heard_in ws) (numbers_of o xs)

-- how far it has come, and by a reply in the next entry
abbrev pub progress_with : Work → List Reply → Progress
progress_with (W.Fetches restarts pieces) got = Fetches restarts pieces got
progress_with (W.Gives upload) got = Gives upload got

abbrev pub progress_of : State → Exchange → Progress
progress_of S e = progress_with e.work (fetched_in S.entries e.opening S.pieces)

abbrev pub comes_to : Content → State → Exchange → Progress
comes_to m S e = step (progress_of S e) (reply_at (length S.entries) m)

-- A whole 2.05 is stored, and counts from the moment of its first reply, the entry of which stands
-- before or is the one of this moment (RFC 7252 section 5.6.1).
abbrev pub moment_in : List Written → ℕ → ℕ → ℕ
moment_in ws t n = option_map_or (λ (w : Written). w.moment) (slice_get ws n) t

abbrev pub stored_by : List Written → ℕ → ℕ → Response → List Reply → Option Stored
stored_by ws t o w [] = None
stored_by ws t o w (r ∷ rs) =
    if w.code == content then Some (stored_of w o (moment_in ws t r.number) (numbers (r ∷ rs)))
    else None

-- What is renewed counts from the 2.03, which is the last of its list (RFC 7252 section 5.9.1.3).
abbrev pub renewed_by : List Written → ℕ → Stored → Reply → Stored
renewed_by ws t s r =
    stored_of (renewed_response s.response r.message) s.opening (moment_in ws t r.number)
    (s.list ++ r.number ∷ [])

abbrev pub content_by : List Written → ℕ → ℕ → Ending → Option Stored
content_by ws t o (Whole w rs) = stored_by ws t o w rs
content_by ws t o (Renewed s r) = Some (renewed_by ws t s r)
content_by ws t o how = None

-- what a message is to the exchanges, and to what is observed
pub data Matter : Type 0 where
  -- nothing
  Nothing : Matter
  -- it is a notification that counts for this watch, and this is stored by it
  Tells : (watch : Registration) → (found : Option Stored) → Matter
  -- it is one with the first piece of a representation, the rest of which this exchange fetches
  Starts : (watch : Registration) → (exchange : Exchange) → (progress : Progress) → Matter
  -- by it the exchange goes on so
  Goes : (exchange : Exchange) → (progress : Progress) → Matter
  -- by it the exchange ends so
  Over : (exchange : Exchange) → (how : Ending) → Matter

-- There is a place for the next message: among those that wait at the endpoint, of which the first
-- goes out where the outstanding one ends, and a message ID.
abbrev pub let_go : Verdict → ℕ
let_go v = if v.ends then 1 else 0

abbrev pub has_next_place : ℕ → Peer → Verdict → State → Bool
has_next_place t p v S =
    nat_lt (length (link_of S.links p).waiting - let_go v) MAX_WAITING
    && nat_lt (mids_in_use t (link_of S.links p)) MAX_MESSAGE_IDS

abbrev pub replied : Bool → Exchange → Progress → Matter
replied place e (Ends how) = Over e how
replied true e progress = Goes e progress
replied false e progress = Over e Turned

-- What an open exchange asks about: nothing any more, once a reply has come.
abbrev pub is_stale_of : ℕ → Stale → Bool
is_stale_of o x = x.opening == o

abbrev pub stale_in : ℕ → List Stale → Option Stored
stale_in o xs = option_map (λ (x : Stale). x.stored) (find (is_stale_of o) xs)

-- By its first reply it ends where that says that this is valid still.
abbrev pub unless_valid : Option Stored → Content → State → Exchange → Matter → Matter
unless_valid None m S e other = other
unless_valid (Some s) m S e other =
    if confirms_tag s.response.etag m then Over e (Renewed s (reply_at (length S.entries) m))
    else other

-- a place among the open exchanges, one among the messages that wait at the endpoint, and an ID
abbrev pub has_place : ℕ → Peer → State → Bool
has_place t p S =
    nat_lt (length S.exchanges) MAX_EXCHANGES
    && (nat_lt (length (link_of S.links p).waiting) MAX_WAITING
    && nat_lt (mids_in_use t (link_of S.links p)) MAX_MESSAGE_IDS)

-- An open exchange reads what is under the key.
abbrev pub reads_key : CacheKey → CoapRequest → Bool
reads_key key q = is_get q && same_key (asked_key q) key

abbrev pub is_reading : List Written → CacheKey → Exchange → Bool
is_reading ws key e = option_map_or (reads_key key) (asked_in ws e.ask) false

-- What comes under the token of a watch alone: a whole update is stored.
abbrev pub found_in : ℕ → State → Notice → ℕ → Progress → Option Stored
found_in t S (Update v) o (Ends how) = content_by S.entries t o how
found_in t S notice o progress = None

-- The rest of one in pieces is fetched where no open exchange reads the same, and there is a place
-- for one.
abbrev pub may_start : ℕ → Peer → Registration → State → Bool
may_start t p r S =
    has_place t p S && not (list_any (is_reading S.entries r.key) S.exchanges)

-- what is known of the pieces
abbrev pub work_by : Progress → Work → Work
work_by (Fetches restarts pieces got) old = W.Fetches restarts pieces
work_by (Gives upload got) old = W.Gives upload
work_by (Ends how) old = old

-- how far an exchange has come that the next entry opens so
abbrev pub starting : ℕ → Peer → Registration → Progress → State → Exchange
starting now p r progress S = record {
  opening = length S.entries;
  ask = r.opening;
  token = [];
  since = now;
  peer = p;
  method = 1;
  sending = None;
  awaits = false;
  observes = false;
  asked = 0;
  current = true;
  newest = true;
  work = work_by progress (W.Fetches 0 no_pieces);
  digests = digests_of r.key;
}

abbrev pub told_so : ℕ → Peer → State → Registration → Notice → Progress → Matter
told_so t p S r (Update v) (Ends how) = Tells r (found_in t S (Update v) r.opening (Ends how))
told_so t p S r (Update v) progress =
    if may_start t p r S then Starts r (starting t p r progress S) progress else Tells r None
told_so t p S r (Other v) progress = Tells r None

abbrev pub tells_of : ℕ → Peer → Content → State → Option Registration → Matter
tells_of t p m S None = Nothing
tells_of t p m S (Some r) =
    if counts_to t m r
    then told_so t p S r (notice_in m) (as_first (length S.entries) 0 m)
    else Nothing

abbrev pub told_alone : ℕ → Peer → News → Content → State → Matter
told_alone t p N.Response m S = tells_of t p m S (find (Watches.is_under m.token) S.watches)
told_alone t p news m S = Nothing

abbrev pub matter_by : ℕ → Peer → News → Bool → Content → State → Option Exchange → Matter
matter_by t p news place m S None = told_alone t p news m S
matter_by t p (N.Reset token) place m S (Some e) = Over e Reset
matter_by t p news place m S (Some e) =
    unless_valid (stale_in e.opening S.stales) m S e (replied place e (comes_to m S e))

abbrev pub matter_of : ℕ → Peer → Content → Verdict → State → Matter
matter_of t p m v S =
    matter_by t p v.news (has_next_place t p v S) m S
    (answered_in (ended_token v.news m.token) S.exchanges)
