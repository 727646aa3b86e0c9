-- What a message does to a state: to the exchanges, their pieces, what is asked about, the store
-- and the watches.
use Rattle.std.specs.Prelude.{ℕ, ◌+◌, true, Bool, not, ◌&&◌, ◌||◌, nat_le, List, [], ◌∷◌, ◌++◌, length, map, filter, take, Option, Some, None, false, ◌==◌, if◌then◌else◌}
use Rattle.std.specs.List.{list_any}
use Rattle.limits.specs.declared.TheConstants.{MAX_STORED, MAX_TRANSMIT_WAIT}
use Rattle.coap_codec.specs.Spelling.{Content}
use Rattle.uri_map.specs.declared.peer.Peer.{Peer}
use Rattle.message_layer.specs.Values.{LinkState}
use Rattle.message_layer.specs.Sending.{waits, queued}
use Rattle.message_layer.specs.Hearing.{is_outstanding_under, verdict_of}
use Rattle.message_layer.specs.declared.state.Waiting.{Waiting}
use Rattle.cache_key.specs.Keys.{CacheKey}
use Rattle.observe_share.specs.declared.registration.Registration.{Registration}
use Rattle.observe_share.specs.declared.notice.Notice.{Notice}
use Rattle.observe_share.specs.declared.notice.Notice.TheVariants.{Update, Other}
use Rattle.observe_share.specs.Watches.{is_idle, noticed, without}
use Rattle.resp_cache.specs.Stored.{Stored}
use Rattle.resp_cache.specs.Stores.{is_elsewhere, others, placed}
use Rattle.resp_cache.specs.declared.pair.Pair.{Pair}
use Rattle.ask_model.specs.Requests.{CoapRequest}
use Rattle.ask_model.specs.Sharing.{asked_key, asked_place, is_get}
use Rattle.journal_book.specs.Entries.{Hears, Passes, Written}
use Rattle.history_laws.specs.Progress.{Reply, Ending, Whole, Renewed, Progress, Fetches, Gives, Ends}
use Rattle.history_laws.specs.Observing.{notice_in}
use Rattle.history_links.specs.Steps.{heard_link, is_over, passed_link}
use Rattle.exchange_model.specs.declared.kept.Exchange.{Exchange}
use Rattle.exchange_model.specs.declared.kept.Piece.{Piece}
use Rattle.exchange_model.specs.declared.kept.Stale.{Stale}
use Rattle.exchange_model.specs.State.{PeerLink, State, link_of, with_link}
use Rattle.exchange_model.specs.Watching.{is_one_of, is_written_by, registered, registers, tokens_of}
use Rattle.exchange_model.specs.Steps.{entered, is_under}
use Rattle.exchange_model.specs.Matters.{asked_in, left_by, is_other, is_piece_of, content_by, Matter, is_stale_of, is_reading, work_by, matter_of, Nothing, Tells, Starts, Goes, Over}

-- what the next message of an exchange is handed in with: its token and bytes, and a random word
pub record Numbers : Type 0 where
  pub token : List ℕ
  pub text : List ℕ
  pub word : ℕ

abbrev pub got_by : Progress → List Reply
got_by (Fetches restarts pieces got) = got
got_by (Gives upload got) = got
got_by (Ends how) = []

-- The first of its replies is newer than all that was told before it.
abbrev pub newest_by : List Reply → Bool → Bool
newest_by (r ∷ []) old = true
newest_by rs old = old

-- An exchange that goes on has its next message under this token.
abbrev pub continued : List ℕ → Progress → Exchange → Exchange
continued token progress e = record e {
  token = token;
  awaits = false;
  observes = false;
  newest = newest_by (got_by progress) e.newest;
  work = work_by progress e.work;
}

abbrev pub goes_so : Exchange → List ℕ → Progress → Exchange → Exchange
goes_so e token progress x = if is_under e.token x then continued token progress x else x

-- What is fetched of a key is out of date where a notification of that counts.
abbrev pub outdated_by : List Written → CacheKey → Exchange → Exchange
outdated_by ws key e = if is_reading ws key e then record e { newest = false } else e

abbrev pub exchanges_by : List Written → List ℕ → Matter → List Exchange → List Exchange
exchanges_by ws token Nothing es = es
exchanges_by ws token (Tells r found) es = map (outdated_by ws r.key) es
exchanges_by ws token (Starts r e progress) es =
    map (outdated_by ws r.key) es ++ record e { token = token } ∷ []
exchanges_by ws token (Goes e progress) es = map (goes_so e token progress) es
exchanges_by ws token (Over e how) es = left_by ws (e ∷ []) (filter (is_other e.token) es)

-- It has one more of the replies by which it goes on, or it begins anew. What has ended needs them
-- no more.
abbrev pub is_of_other : Exchange → Piece → Bool
is_of_other e x = not (is_piece_of e.opening x)

abbrev pub pieces_with : Exchange → ℕ → List Reply → List Piece → List Piece
pieces_with e n [] xs = filter (is_of_other e) xs
pieces_with e n (r ∷ rs) xs = xs ++ record { opening = e.opening; number = n } ∷ []

abbrev pub pieces_by : ℕ → Matter → List Piece → List Piece
pieces_by n Nothing xs = xs
pieces_by n (Tells r found) xs = xs
pieces_by n (Starts r e progress) xs = pieces_with e n (got_by progress) xs
pieces_by n (Goes e progress) xs = pieces_with e n (got_by progress) xs
pieces_by n (Over e how) xs = filter (is_of_other e) xs

-- By its first reply, or its end, an exchange asks about nothing any more.
abbrev pub is_stale_of_other : Exchange → Stale → Bool
is_stale_of_other e x = not (is_stale_of e.opening x)

abbrev pub stales_by : Matter → List Stale → List Stale
stales_by Nothing xs = xs
stales_by (Tells r found) xs = xs
stales_by (Starts r e progress) xs = xs
stales_by (Goes e progress) xs = filter (is_stale_of_other e) xs
stales_by (Over e how) xs = filter (is_stale_of_other e) xs

-- one token more is issued where an exchange goes on, or begins, and its message waits last
abbrev pub issued_by : Matter → ℕ → ℕ
issued_by (Starts r e progress) old = old + 1
issued_by (Goes e progress) old = old + 1
issued_by matter old = old

abbrev pub more_by : Numbers → Matter → Option Waiting
more_by n (Goes e progress) = Some (waits n.token n.text n.word)
more_by n (Starts r e progress) = Some (waits n.token n.text n.word)
more_by n matter = None

abbrev pub link_with : ℕ → Option Waiting → LinkState → LinkState
link_with t None s = s
link_with t (Some w) s = queued t w s

abbrev pub put_by : Option Stored → CacheKey → List Pair → List Pair
put_by None key ps = ps
put_by (Some s) key ps = take MAX_STORED (placed key s ps)

-- What the end of an exchange does to the store: a GET that no write outran stores what it came to
-- under its key, and a write takes out all of its place.
abbrev pub settled_for : CoapRequest → Bool → Option Stored → List Pair → List Pair
settled_for q current found ps =
    if q.method == 1 then (if is_get q && current then put_by found (asked_key q) ps else ps)
    else filter (is_elsewhere (asked_place q)) ps

abbrev pub settled_by : Option CoapRequest → Bool → Option Stored → List Pair → List Pair
settled_by None current found ps = ps
settled_by (Some q) current found ps = settled_for q current found ps

abbrev pub settled : List Written → Option Exchange → Option Stored → List Pair → List Pair
settled ws None found ps = ps
settled ws (Some e) found ps = settled_by (asked_in ws e.ask) e.current found ps

-- These come to nothing that is stored.
abbrev pub retired : List Written → List Exchange → List Pair → List Pair
retired ws [] ps = ps
retired ws (e ∷ es) ps = retired ws es (settled ws (Some e) None ps)

-- None is stored where a newer notification came.
abbrev pub is_newest : Exchange → Ending → Bool
is_newest e (Whole w rs) = newest_by rs e.newest
is_newest e (Renewed s r) = e.newest
is_newest e how = false

abbrev pub newest_content : List Written → ℕ → Exchange → Ending → Option Stored
newest_content ws t e how = if is_newest e how then content_by ws t e.ask how else None

-- A notification takes the place of what is stored for its key, or takes that out.
abbrev pub retold : CacheKey → Option Stored → List Pair → List Pair
retold key None ps = others key ps
retold key (Some s) ps = put_by (Some s) key ps

abbrev pub store_by : List Written → ℕ → Matter → List Pair → List Pair
store_by ws t (Over e how) ps = settled ws (Some e) (newest_content ws t e how) ps
store_by ws t (Tells r found) ps = retold r.key found ps
store_by ws t (Starts r e progress) ps = retold r.key None ps
store_by ws t matter ps = ps

-- What is observed after it: the reply to a message that asked for that registers, a notification
-- counts, and with a write those of its place end.
abbrev pub watches_by : ℕ → Content → List Written → Matter → List Registration → List Registration
watches_by t m ws Nothing rs = rs
watches_by t m ws (Tells r found) rs = noticed m.token (notice_in m) t rs
watches_by t m ws (Starts r e progress) rs = noticed m.token (notice_in m) t rs
watches_by t m ws (Goes e progress) rs = registered t m e (asked_in ws e.ask) rs
watches_by t m ws (Over e how) rs =
    without (is_written_by (asked_in ws e.ask)) (registered t m e (asked_in ws e.ask) rs)

-- Under these tokens nothing is expected any more.
abbrev pub unless_registered : Content → Exchange → List Registration → List (List ℕ)
unless_registered m e rs = if registers m e rs then [] else e.token ∷ []

abbrev pub unless_updated : Notice → Registration → List (List ℕ)
unless_updated (Update v) r = []
unless_updated (Other v) r = r.token ∷ []

abbrev pub gone_by : Content → List Written → Matter → List Registration → List (List ℕ)
gone_by m ws Nothing rs = []
gone_by m ws (Tells r found) rs = unless_updated (notice_in m) r
gone_by m ws (Starts r e progress) rs = []
gone_by m ws (Goes e progress) rs = unless_registered m e rs
gone_by m ws (Over e how) rs =
    unless_registered m e rs ++ tokens_of (is_written_by (asked_in ws e.ask)) rs

-- The entry of a message, and all that it does but for what goes out and is answered then.
abbrev pub hears : ℕ → Peer → List ℕ → Content → Numbers → State → State
hears t p d m n S =
    let s = link_of S.links p in let v = verdict_of t s m in let x = matter_of t p m v S in
    let gone = is_one_of (gone_by m S.entries x S.watches) in
    let S1 = entered t (Hears p d) S in record S1 {
      issued = issued_by x S.issued;
      exchanges = exchanges_by S.entries n.token x S.exchanges;
      pieces = pieces_by (length S.entries) x S.pieces;
      stales = stales_by x S.stales;
      watches = watches_by t m S.entries x S.watches;
      store = store_by S.entries t x S.store;
      links = with_link p (link_with t (more_by n x) (heard_link t m.mid m.token gone v s)) S.links;
    }

-- A tick ends the exchanges that have been open for as long as they may, and those whose message
-- was sent five times in vain.
abbrev pub is_past : ℕ → Exchange → Bool
is_past t e = nat_le (e.since + MAX_TRANSMIT_WAIT) t

abbrev pub is_in_vain : ℕ → LinkState → Exchange → Bool
is_in_vain t s e =
    e.awaits && (is_outstanding_under e.token s.outstanding && is_over t s.outstanding)

abbrev pub expires : ℕ → List PeerLink → Exchange → Bool
expires t links e = is_past t e || is_in_vain t (link_of links e.peer) e

abbrev pub timed_out : ℕ → State → List Exchange
timed_out t S = filter (expires t S.links) S.exchanges

abbrev pub goes_on : ℕ → State → Exchange → Bool
goes_on t S e = not (expires t S.links e)

-- It ends what nobody asked for in a while, and what is at a place that one of them writes to.
abbrev pub is_written_late : List Written → List Exchange → Registration → Bool
is_written_late ws over r =
    list_any (λ (e : Exchange). is_written_by (asked_in ws e.ask) r) over

abbrev pub is_unwatched : ℕ → State → Registration → Bool
is_unwatched t S r = is_idle t r || is_written_late S.entries (timed_out t S) r

-- the token of one that ends
abbrev pub is_gone : ℕ → State → List ℕ → Bool
is_gone t S token =
    list_any (λ (e : Exchange). is_under token e && expires t S.links e) S.exchanges
    || is_one_of (tokens_of (is_unwatched t S) S.watches) token

abbrev pub passed : ℕ → State → PeerLink → PeerLink
passed t S x = record { peer = x.peer; link = passed_link t (is_gone t S) x.link }

-- the pieces of those that go on
abbrev pub is_of_none : List Exchange → Piece → Bool
is_of_none es x = not (list_any (λ (e : Exchange). x.opening == e.opening) es)

abbrev pub is_stale_of_none : List Exchange → Stale → Bool
is_stale_of_none es x = not (list_any (λ (e : Exchange). x.opening == e.opening) es)

abbrev pub passes : ℕ → State → State
passes t S = let S1 = entered t Passes S in record S1 {
  pieces = filter (is_of_none (timed_out t S)) S.pieces;
  stales = filter (is_stale_of_none (timed_out t S)) S.stales;
  exchanges = left_by S.entries (timed_out t S) (filter (goes_on t S) S.exchanges);
  watches = without (is_unwatched t S) S.watches;
  store = retired S.entries (timed_out t S) S.store;
  links = map (passed t S) S.links;
}
