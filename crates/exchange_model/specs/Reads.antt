-- A state says what a history says.
use Rattle.std.specs.Prelude.{◌≡◌, ◌≢◌, ◌⊎◌, ⊤, ℕ, ◌+◌, ◌<◌, ◌≤◌, max, Bool, true, false, not, List, [], ◌∷◌, ◌++◌, length, map, Option, Some, None, is_some, if◌then◌else◌}
use Rattle.std.specs.List.{AllByRecursion, Contains, list_any}
use Rattle.limits.specs.declared.TheConstants.{MAX_BODY_LEN, MAX_NUMBERED}
use Rattle.uri_map.specs.declared.peer.Peer.{Peer}
use Rattle.message_layer.specs.declared.state.Waiting.{Waiting}
use Rattle.cache_key.specs.Digests.{digests_of}
use Rattle.cache_key.specs.Keys.{CacheKey}
use Rattle.observe_share.specs.declared.registration.Registration.{Registration}
use Rattle.resp_cache.specs.Stored.{Stored, is_never_fresh}
use Rattle.resp_cache.specs.Stores.{is_of}
use Rattle.resp_cache.specs.declared.pair.Pair.{Pair}
use Rattle.ask_model.specs.Requests.{CoapRequest}
use Rattle.ask_model.specs.Sharing.{asked_key, asked_place, is_get}
use Rattle.journal_book.specs.Entries.{Deed, Opens, Asks}
use Rattle.history_laws.specs.Numbering.{token_number}
use Rattle.history_laws.specs.Joining.{outrun}
use Rattle.history_laws.specs.Storing.{IsStored, IsUse, IsUnused, IsCrowdedOut, first_in}
use Rattle.history_laws.specs.Readings.{Noted, Note, Begins, Renews, Joins, entries, newest}
use Rattle.history_laws.specs.Connections.{is_sealed, opened, has_opened}
use Rattle.history_laws.specs.Transmissions.{FirstSending, firsts, first_at, sent_last, bears_token}
use Rattle.history_laws.specs.Progress.{Reply, numbers, progress}
use Rattle.history_laws.specs.Exchanges.{Begun, begun, ask_behind, heard_for, issued, kept, rank, replies, waits_for, open_exchanges}
use Rattle.history_laws.specs.Justified.{Legal, IsNextConn}
use Rattle.history_laws.specs.Observing.{Watch, asked_last, observes, outdated, watches}
use Rattle.history_links.specs.Agrees.{Start, Agrees}
use Rattle.exchange_model.specs.declared.kept.Conn.{Conn}
use Rattle.exchange_model.specs.declared.kept.Exchange.{Exchange}
use Rattle.exchange_model.specs.declared.kept.Piece.{Piece}
use Rattle.exchange_model.specs.declared.kept.Reader.{Reader}
use Rattle.exchange_model.specs.declared.kept.Stale.{Stale}
use Rattle.exchange_model.specs.State.{State, link_of, conns_after, readers_after}
use Rattle.exchange_model.specs.Matters.{numbers_of, progress_with, stale_in}
use Rattle.exchange_model.specs.Hearing.{got_by}

-- the connections that are open, each with its ask that waits
abbrev pub conns_of : List Noted → List Conn
conns_of [] = []
conns_of (x ∷ older) = conns_after (conns_of older) (length older) x.written.deed

-- who waits for an exchange, in the order of their asks
abbrev pub reader_at : ℕ → ℕ → ℕ → Reader
reader_at k c o = record { ask = k; conn = c; opening = o }

abbrev pub readers_by : ℕ → Deed → Note → List Reader → List Reader
readers_by n (Asks c a) (Begins q) rs = rs ++ reader_at n c n ∷ []
readers_by n (Asks c a) (Renews q s) rs = rs ++ reader_at n c n ∷ []
readers_by n (Asks c a) (Joins o) rs = rs ++ reader_at n c o ∷ []
readers_by n d note rs = readers_after rs d

abbrev pub readers_of : List Noted → List Reader
readers_of [] = []
readers_of (x ∷ older) = readers_by (length older) x.written.deed x.note (readers_of older)

-- Its message went out under its token, or nothing did.
abbrev pub IsSentUnder : List Noted → Peer → List ℕ → Option ℕ → Type 0
IsSentUnder l p token None = bears_token l token ≡ false
IsSentUnder l p token (Some i) =
    (f : FirstSending) × (first_at l i ≡ Some f) × (f.peer ≡ p) × (f.message.token ≡ token)

-- the first sending whose reply is awaited
abbrev pub awaited_by : Bool → Option ℕ → Option ℕ
awaited_by awaits sending = if awaits then sending else None

-- the replies by which it goes on, and not let go for others
abbrev pub got_for : Option Begun → List Reply → List Reply
got_for None rs = []
got_for (Some b) rs = got_by (progress b.request rs)

abbrev pub got_in : List Noted → ℕ → List Reply
got_in l o = got_for (begun l o) (heard_for l o)

-- No notification that counts for the key came since the first of these replies.
abbrev pub IsNewest : List Noted → CacheKey → List Reply → Bool → Type 0
IsNewest l key [] current = ⊤
IsNewest l key (r ∷ rs) current = outdated l key r.number ≡ not current

-- what it asks about: nothing any more, once a reply has come
abbrev pub kept_yet : Option Stored → List Reply → Option Stored
kept_yet old [] = old
kept_yet old (r ∷ rs) = None

abbrev pub kept_in : List Noted → ℕ → Option Stored
kept_in l o = kept_yet (kept l o) (replies l o)

-- What is kept of an exchange is what the history says of it.
pub record ExchangeIn (start : Start) (l : List Noted) (e : Exchange) : Type 0 where
  pub request : CoapRequest
  pub opening : begun l e.opening ≡ Some (record { since = e.since; request = request })
  pub peer : request.peer ≡ e.peer
  pub method : request.method ≡ e.method
  pub number : start.issued + rank l e.opening ≡ token_number e.token
  pub sending : sent_last l e.opening ≡ e.sending
  pub awaits : waits_for l e.opening ≡ awaited_by e.awaits e.sending
  pub observes : observes l e.opening ≡ e.observes
  pub asked : asked_last l e.opening ≡ e.asked
  pub named : e.awaits ≡ true → is_some e.sending ≡ true
  pub sent : IsSentUnder l e.peer e.token (awaited_by e.awaits e.sending)
  pub current : e.current ≡ not (outrun l (asked_place request) e.opening)
  pub newest : is_get request ≡ true → IsNewest l (asked_key request) (got_in l e.opening) e.newest
  pub newest_kept : (s : Stored) → kept_in l e.opening ≡ Some s
      → outdated l (asked_key request) (first_in s.list) ≡ not e.newest
  pub progress : progress request (heard_for l e.opening) ≡ progress_with e.work
      (got_in l e.opening)
  pub short : length request.body ≤ MAX_BODY_LEN
  pub digests : digests_of (asked_key request) ≡ e.digests
  pub behind : ask_behind l e.opening ≡ e.ask

-- The pieces are the replies by which the open exchanges go on.
pub record PiecesIn (l : List Noted) (es : List Exchange) (xs : List Piece) : Type 0 where
  pub fetched : AllByRecursion
      (λ (e : Exchange). numbers (got_in l e.opening) ≡ numbers_of e.opening xs) es
  pub below : AllByRecursion (λ (x : Piece). x.opening < length l) xs

-- What the open exchanges ask about.
pub record StalesIn (l : List Noted) (es : List Exchange) (xs : List Stale) : Type 0 where
  pub kept : AllByRecursion (λ (e : Exchange). kept_in l e.opening ≡ stale_in e.opening xs) es
  pub below : AllByRecursion (λ (x : Stale). x.opening < length l) xs

-- A message that waits under its number waits under its token.
abbrev pub WaitsUnder : List Waiting → Exchange → Type 0
WaitsUnder ws e =
    (w : Waiting) → Contains ws w → token_number w.token ≡ token_number e.token → w.token ≡ e.token

abbrev pub opening_of : Exchange → ℕ
opening_of e = e.opening

-- what is kept of those that are observed
abbrev pub held_of : Watch → Registration
held_of w = w.held

-- Each pair is what is stored for GETs of its key.
pub record PairIn (l : List Noted) (p : Pair) : Type 0 where
  pub request : CoapRequest
  pub get : is_get request ≡ true
  pub key : asked_key request ≡ p.key
  pub stored : IsStored l request p.stored

-- What is stored under the key was used last in the entry with this number.
pub record IsLastUse (l : List Noted) (n : ℕ) (key : CacheKey) : Type 0 where
  pub used : IsUse l n key
  pub last : (m : ℕ) → IsUse l m key → m ≤ n

-- What is stored under these keys is what the journal begins with, and wasn't used since.
abbrev pub AreUnused : List Noted → List Pair → Type 0
AreUnused l [] = ⊤
AreUnused l (p ∷ ps) =
    IsUnused l p.key × AllByRecursion (λ (r : Pair). p.key ≢ r.key) ps × AreUnused l ps

-- The pairs stand in the order of their last uses, which lie before this entry; behind them those
-- that weren't used.
abbrev pub AreLastFirst : List Noted → ℕ → List Pair → Type 0
AreLastFirst l b [] = ⊤
AreLastFirst l b (p ∷ ps) =
    ((n : ℕ) × (n < b) × IsLastUse l n p.key × AreLastFirst l n ps) ⊎ AreUnused l (p ∷ ps)

abbrev pub HasPair : List Pair → CacheKey → Type 0
HasPair ps key = list_any (is_of key) ps ≡ true

-- The store has what the history says: the last used first, and all that isn't crowded out.
pub record StoreIn (l : List Noted) (ps : List Pair) : Type 0 where
  pub pairs : AllByRecursion (PairIn l) ps
  pub order : AreLastFirst l (length l) ps
  pub kept : (q : CoapRequest) (s : Stored) → IsStored l q s → is_never_fresh s ≡ false
      → HasPair ps (asked_key q) ⊎ IsCrowdedOut l (asked_key q)

-- how many connections the history opened
abbrev pub opens_once : Deed → ℕ → ℕ
opens_once (Opens c) old = old + 1
opens_once _ old = old

abbrev pub opens_in : List Noted → ℕ
opens_in [] = 0
opens_in (x ∷ older) = opens_once x.written.deed (opens_in older)

-- The state says what a legal reading of its entries says, which begins at this start.
pub record Reads (l : List Noted) (S : State) : Type 0 where
  pub start : Start
  pub few : (start.issued ≤ MAX_NUMBERED) × (start.opened ≤ MAX_NUMBERED)
  pub entries_are : entries l ≡ S.entries
  pub legal : Legal l
  pub sealed_is : is_sealed l ≡ S.sealed
  pub moment_is : max start.moment (newest l) ≡ S.moment
  pub opened_are : IsNextConn (has_opened l) (opened l) S.opened
  pub opens_are : start.opened + opens_in l ≡ S.opened
  pub issued_are : start.issued + issued l ≡ S.issued
  pub conns_are : conns_of l ≡ S.conns
  pub readers_are : readers_of l ≡ S.readers
  pub keys : open_exchanges l ≡ map opening_of S.exchanges
  pub exchanges_are : AllByRecursion (ExchangeIn start l) S.exchanges
  pub pieces_are : PiecesIn l S.exchanges S.pieces
  pub stales_are : StalesIn l S.exchanges S.stales
  pub watches_are : map held_of (watches l) ≡ S.watches
  pub store_is : StoreIn l S.store
  pub tokens_are :
      AllByRecursion (λ (f : FirstSending). token_number f.message.token < S.issued) (firsts l)
  pub waiting_are :
      AllByRecursion (λ (e : Exchange). WaitsUnder (link_of S.links e.peer).waiting e) S.exchanges
  pub links_are : (p : Peer) → Agrees start l p (link_of S.links p)
