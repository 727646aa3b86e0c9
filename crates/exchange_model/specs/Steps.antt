-- What each kind of entry does to a state.
use Rattle.std.specs.Prelude.{ℕ, ◌+◌, true, Bool, is_some, not, option_map, ◌&&◌, List, [], ◌∷◌, ◌++◌, length, map, filter, slice_get, Option, Some, None, Result, Ok, Err, option_and_then, false, ◌==◌, if◌then◌else◌}
use Rattle.std.specs.Str.{bytes_eq}
use Rattle.coap_codec.specs.Spelling.{Content}
use Rattle.coap_codec.specs.Reading.{message_at}
use Rattle.coap_codec.specs.declared.fault.CodecFault.{CodecFault}
use Rattle.uri_map.specs.declared.peer.Peer.{Peer}
use Rattle.message_layer.specs.Values.{LinkState}
use Rattle.message_layer.specs.Sending.{first_sent, with_outstanding, with_copy, waits, queued}
use Rattle.message_layer.specs.declared.state.Waiting.{Waiting}
use Rattle.message_layer.specs.declared.state.Outstanding.{Outstanding}
use Rattle.cache_key.specs.Digests.{digests_of}
use Rattle.cache_key.specs.Keys.{CacheKey}
use Rattle.observe_share.specs.Watches.{without}
use Rattle.resp_cache.specs.Stored.{Stored}
use Rattle.resp_cache.specs.Stores.{moved, stale_under}
use Rattle.ask_model.specs.Requests.{CoapRequest, Manner}
use Rattle.ask_model.specs.Sharing.{asked_key, is_get}
use Rattle.ask_model.specs.Views.{Ask}
use Rattle.journal_book.specs.Entries.{Grounds, Deed, Opens, Asks, Sends, Hears, Answers, Shuts, Seals, Written}
use Rattle.blockwise.specs.Downloads.{no_pieces}
use Rattle.blockwise.specs.Uploads.{begun}
use Rattle.history_laws.specs.Readings.{Note, Begins, Renews}
use Rattle.history_laws.specs.Responses.{valid}
use Rattle.history_laws.specs.Progress.{Reply}
use Rattle.history_laws.specs.Observing.{manner_by, tag_of}
use Rattle.history_links.specs.Steps.{lets_go}
use Rattle.exchange_model.specs.declared.kept.Exchange.{Exchange}
use Rattle.exchange_model.specs.declared.kept.Reader.{Reader}
use Rattle.exchange_model.specs.declared.kept.Stale.{Stale}
use Rattle.exchange_model.specs.declared.kept.Work.{Work}
use Rattle.exchange_model.specs.declared.kept.Work.TheVariants as W
use Rattle.exchange_model.specs.State.{State, link_of, with_link, conns_after, readers_after}
use Rattle.exchange_model.specs.Watching.{is_one_of, is_renewed_by, tokens_of, touched, wants}

-- one entry more, and what it does to the connections and to who waits
abbrev pub entered : ℕ → Deed → State → State
entered t d S = record S {
  entries = S.entries ++ record { moment = t; deed = d } ∷ [];
  moment = t;
  conns = conns_after S.conns (length S.entries) d;
  readers = readers_after S.readers d;
}

-- the next connection is opened
abbrev pub opens : ℕ → State → State
opens t S = let S1 = entered t (Opens S.opened) S in record S1 { opened = S.opened + 1 }

-- an ask that opens nothing; an answer; a connection is shut; the journal is sealed
abbrev pub asks : ℕ → ℕ → Ask → State → State
asks t c a S =
    let S1 = entered t (Asks c a) S in record S1 { watches = touched t a.sense S.watches }

abbrev pub answers : ℕ → ℕ → ℕ → Grounds → State → State
answers t c k g S = entered t (Answers c k g) S

abbrev pub shuts : ℕ → ℕ → State → State
shuts t c S = entered t (Shuts c) S

abbrev pub seals : ℕ → State → State
seals t S = let S1 = entered t Seals S in record S1 { sealed = true }

-- The ask in the next entry opens an exchange, which it reads, and its message waits last at its
-- endpoint, under the next token.
abbrev pub reader_for : ℕ → State → Reader
reader_for c S = record { ask = length S.entries; conn = c; opening = length S.entries }

-- The body of any request but a GET may go in pieces.
abbrev pub first_work : CoapRequest → Work
first_work q = if q.method == 1 then W.Fetches 0 no_pieces else W.Gives (begun (length q.body) 6)

abbrev pub exchange_for : ℕ → Ask → CoapRequest → List ℕ → State → Exchange
exchange_for t a q token S = record {
  opening = length S.entries;
  ask = length S.entries;
  token = token;
  since = t;
  peer = q.peer;
  method = q.method;
  sending = None;
  awaits = false;
  observes = wants a q S.watches;
  asked = t;
  current = true;
  newest = true;
  work = first_work q;
  digests = digests_of (asked_key q);
}

-- the link of its server, without what comes under the token of a watch that it renews
abbrev pub unwatched : CoapRequest → State → LinkState
unwatched q S =
    lets_go (is_one_of (tokens_of (is_renewed_by q) S.watches)) (link_of S.links q.peer)

-- what was heard in an entry
abbrev pub reply_at : ℕ → Content → Reply
reply_at n m = record { number = n; sending = 0; message = m }

abbrev pub read_as : ℕ → Result Content CodecFault → Option Reply
read_as n (Ok m) = Some (reply_at n m)
read_as n (Err fault) = None

abbrev pub heard_by : ℕ → Deed → Option Reply
heard_by n (Hears p d) = read_as n (message_at d)
heard_by n _ = None

abbrev pub heard_in : List Written → ℕ → Option Reply
heard_in ws n = option_and_then (λ (w : Written). heard_by n w.deed) (slice_get ws n)

-- It asks whether what is stored for the request is valid still, where that isn't fresh and has an
-- ETag, unless it asks to observe (RFC 7252 section 5.6.2).
abbrev pub if_tagged : Option Stored → Option Stored
if_tagged None = None
if_tagged (Some s) = if is_some s.response.etag then Some s else None

-- An exchange keeps the entries of its pieces alone: a 2.03 that renewed it before goes.
abbrev pub is_valid : Option Reply → Bool
is_valid None = false
is_valid (Some r) = r.message.code == valid

abbrev pub is_piece_at : List Written → ℕ → Bool
is_piece_at ws n = not (is_valid (heard_in ws n))

abbrev pub as_pieces : List Written → Stored → Stored
as_pieces ws s = record s { list = filter (is_piece_at ws) s.list }

abbrev pub kept_for : ℕ → Ask → CoapRequest → State → Option Stored
kept_for t a q S =
    if is_get q && not (wants a q S.watches)
    then option_map (as_pieces S.entries) (if_tagged (stale_under (asked_key q) t S.store))
    else None

abbrev pub stale_for : ℕ → Option Stored → List Stale
stale_for o None = []
stale_for o (Some s) = record { opening = o; stored = s } ∷ []

-- the note of its opening, and how its first message asks
abbrev pub opening_note : CoapRequest → Option Stored → Note
opening_note q None = Begins q
opening_note q (Some s) = Renews q s

abbrev pub asks_so : ℕ → Ask → CoapRequest → State → Manner
asks_so t a q S = manner_by (tag_of (kept_for t a q S) []) (wants a q S.watches)

abbrev pub begins : ℕ → ℕ → Ask → CoapRequest → List ℕ → List ℕ → ℕ → State → State
begins t c a q token text word S = let S1 = entered t (Asks c a) S in record S1 {
  issued = S.issued + 1;
  exchanges = S.exchanges ++ exchange_for t a q token S ∷ [];
  stales = S.stales ++ stale_for (length S.entries) (kept_for t a q S);
  readers = S.readers ++ reader_for c S ∷ [];
  watches = without (is_renewed_by q) S.watches;
  links = with_link q.peer (queued t (waits token text word) (unwatched q S)) S.links;
}

-- An ask is answered from the store: its pair comes to the front.
abbrev pub recalls : ℕ → ℕ → Ask → CacheKey → State → State
recalls t c a key S = let S1 = asks t c a S in record S1 { store = moved key t S.store }

-- an ask reads an exchange that is open
abbrev pub read_last : ℕ → ℕ → Exchange → ℕ
read_last t o e = if e.opening == o then t else e.asked

abbrev pub read_at : ℕ → ℕ → Exchange → Exchange
read_at t o e = record e { asked = read_last t o e }

abbrev pub joins : ℕ → ℕ → Ask → ℕ → State → State
joins t c a o S = let S1 = asks t c a S in record S1 {
  exchanges = map (read_at t o) S.exchanges;
  readers = S.readers ++ record { ask = length S.entries; conn = c; opening = o } ∷ [];
}

-- an ACK or RST, and what is heard and is nothing new, leave all else as it is
abbrev pub confirms : ℕ → Peer → List ℕ → State → State
confirms t p bytes S = entered t (Sends p bytes None) S

abbrev pub hears_nothing : ℕ → Peer → List ℕ → State → State
hears_nothing t p d S = entered t (Hears p d) S

-- a link whose datagrams were given out
abbrev pub given_out : LinkState → LinkState
given_out s = record s { out = [] }

-- the message that waits first at an endpoint goes out
abbrev pub is_under : List ℕ → Exchange → Bool
is_under token e = bytes_eq e.token token

abbrev pub went_out : List ℕ → ℕ → Exchange → Exchange
went_out token i e =
    if is_under token e then record e { sending = Some i; awaits = true } else e

abbrev pub sends_first : ℕ → Peer → Waiting → List Waiting → State → State
sends_first t p w ws S =
    let s = link_of S.links p in let o = first_sent t s.last_mid w in
    let S1 = entered t (Sends p o.datagram (Some o.timeout)) S in record S1 {
      exchanges = map (went_out w.token (length S.entries)) S.exchanges;
      links = with_link p (given_out (with_outstanding s ws o)) S.links;
    }

-- the message that is outstanding at an endpoint goes out once more
abbrev pub sends_copy : ℕ → Peer → Outstanding → State → State
sends_copy t p o S = let S1 = entered t (Sends p o.datagram None) S in record S1 {
  links = with_link p (given_out (with_copy t (link_of S.links p) o)) S.links;
}
