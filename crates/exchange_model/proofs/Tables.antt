-- What an entry leaves of what a state keeps.
use Rattle.std.proofs.Common.{◌≡◌, ℕ, ◌+◌, ◌<◌, ◌≤◌, Bool, true, false, not, cond, eqb, List, [], ◌∷◌, ◌++◌, length, map, Option, Some, None, refl, sym, ap, subst, ◌∙◌, arith}
use Rattle.std.specs.Prelude.{is_none, max, find, option_map}
use Rattle.std.proofs.lemmas.List.Elements.{filter_agree}
use Rattle.uri_map.specs.declared.peer.Peer.{Peer}
use Rattle.uri_map.specs.Peers.{same_peer}
use Rattle.uri_map.proofs.CallerLemmas.{same_peer-same, same_peer-itself}
use Rattle.message_layer.specs.Values.{LinkState}
use Rattle.cache_key.specs.Keys.{CacheKey}
use Rattle.observe_share.specs.declared.registration.Registration.{Registration}
use Rattle.resp_cache.specs.declared.pair.Pair.{Pair}
use Rattle.ask_model.specs.Sharing.{asked_key, asked_place, is_get}
use Rattle.journal_book.specs.Entries.{Deed, Written, Opens}
use Rattle.history_laws.specs.Readings.{Noted, Note, newest, noted}
use Rattle.history_laws.specs.Connections.{sealed_by, opened_by, opened, opens_by, has_opened}
use Rattle.history_laws.specs.Progress.{Reply, numbers, progress}
use Rattle.history_laws.specs.Observing.{asked_last, counting, outdated}
use Rattle.history_laws.specs.Observing as H
use Rattle.history_laws.specs.Transmissions.{FirstSending, firsts, first_at, sent_last, bears_token}
use Rattle.history_laws.specs.Exchanges.{openings, waits_for, is_going, open_exchanges}
use Rattle.resp_cache.specs.Stored.{Stored}
use Rattle.history_laws.specs.Storing.{first_in}
use Rattle.history_laws.specs.Joining.{outrun}
use Rattle.history_laws.specs.Justified.{Follows, IsNextConn}
use Rattle.history_laws.proofs.CallerLemmas.{all-more, outrun-same, awaiting-stays, begun-keeps, entries-length, eqb-same, find-some, first-older, heard-stays, listed-below, rank-keeps}
use Rattle.history_links.specs.Agrees.{Start, Agrees}
use Rattle.history_links.proofs.CallerLemmas.{first_at-still, observes-keep, Still}
use Rattle.exchange_model.specs.declared.kept.Exchange.{Exchange}
use Rattle.exchange_model.specs.declared.kept.Reader.{Reader}
use Rattle.exchange_model.specs.State.{PeerLink, State, link_of, with_link, conns_after}
use Rattle.exchange_model.specs.declared.kept.Piece.{Piece}
use Rattle.exchange_model.specs.declared.kept.Stale.{Stale}
use Rattle.exchange_model.specs.Steps.{given_out}
use Rattle.exchange_model.specs.Matters.{numbers_of, progress_with, stale_in}
use Rattle.exchange_model.proofs.Lists.{all-map}
use Rattle.exchange_model.proofs.Pieces.{behind-same, behind-stays, got-same, got-stays, pieces-stay}
use Rattle.exchange_model.proofs.Watches.{newest-same, outdated-quiet}
use Rattle.exchange_model.proofs.Stales.{kept-same, kept-stays, stales-stay}
use Rattle.exchange_model.specs.Reads.{IsNewest, StalesIn, kept_in, IsSentUnder, awaited_by, got_in, held_of, ExchangeIn, opening_of, PiecesIn, StoreIn, WaitsUnder, Reads, opens_in, opens_once, readers_by, readers_of}

-- entries

-- first sendings stay

pub first-below : (l : List Noted) (i : ℕ) (f : FirstSending) → first_at l i ≡ Some f → i < length l
first-below l i f e =
    let it = find-some (λ (g : FirstSending). eqb g.number i) (firsts l) f e in
    subst (λ (n : ℕ). n < length l) (eqb-same f.number i it.1) (listed-below l f it.0)

pub first-stays : (x : Noted) (l : List Noted) (i : ℕ) (f : FirstSending) → first_at l i ≡ Some f → first_at (x ∷ l) i ≡ Some f
first-stays x l i f e = first-older x l i (first-below l i f e) ∙ e

-- exchanges

pub under-stays : (x : Noted) (l : List Noted) (p : Peer) (token : List ℕ) (s : Option ℕ) → (bears_token l token ≡ false → bears_token (x ∷ l) token ≡ false)
    → IsSentUnder l p token s → IsSentUnder (x ∷ l) p token s
under-stays x l p token None unborne a = unborne a
under-stays x l p token (Some i) unborne a = (a.0, first-stays x l i a.0 a.1, a.2, a.3)

-- An entry after which an exchange waits for what it waited for leaves what is kept of it.
pub exchange-stays : {start : Start} (x : Noted) (l : List Noted) (e : Exchange) (b c : Bool) → (bears_token l e.token ≡ false → bears_token (x ∷ l) e.token ≡ false)
    → waits_for (x ∷ l) e.opening ≡ waits_for l e.opening → sent_last (x ∷ l) e.opening ≡ sent_last l e.opening → asked_last (x ∷ l) e.opening ≡ asked_last l e.opening
    → (a : ExchangeIn start l e) → b ≡ not (outrun (x ∷ l) (asked_place a.request) e.opening)
    → (is_get a.request ≡ true → IsNewest (x ∷ l) (asked_key a.request) (got_in l e.opening) c)
    → ((s : Stored) → kept_in l e.opening ≡ Some s → outdated (x ∷ l) (asked_key a.request) (first_in s.list) ≡ not c)
    → ExchangeIn start (x ∷ l) (record e { current = b; newest = c })
exchange-stays {start = start} x l e b c unborne same sends reads a current newest kept_newest =
    let unreplied = awaiting-stays x l e.opening same in
    let got = got-stays x l e.opening _ a.opening unreplied in record {
      request = a.request;
      opening = begun-keeps x l e.opening _ a.opening;
      peer = a.peer;
      method = a.method;
      number = ap (λ (k : ℕ). start.issued + k) (rank-keeps x l e.opening _ a.opening unreplied) ∙ a.number;
      sending = sends ∙ a.sending;
      awaits = same ∙ a.awaits;
      observes = observes-keep x l e.opening _ a.opening unreplied ∙ a.observes;
      asked = reads ∙ a.asked;
      named = a.named;
      sent = under-stays x l e.peer e.token (awaited_by e.awaits e.sending) unborne a.sent;
      progress = ap (progress a.request) (heard-stays x l e.opening _ a.opening unreplied)
          ∙ (a.progress ∙ ap (progress_with e.work) (sym got));
      current = current;
      newest = λ get. subst (λ (rs : List Reply). IsNewest (x ∷ l) (asked_key a.request) rs c) (sym got) (newest get);
      newest_kept = λ s k. kept_newest s (sym (kept-stays x l e.opening _ a.opening unreplied) ∙ k);
      short = a.short;
      digests = a.digests;
      behind = behind-stays x l e.opening _ a.opening ∙ a.behind;
    }

-- Nor does one that is nothing to any exchange.
under-still : (l n : List Noted) (p : Peer) (token : List ℕ) (s : Option ℕ) → Still l n → IsSentUnder l p token s → IsSentUnder n p token s
under-still l n p token None still a = rw (still.firsts_are) a
under-still l n p token (Some i) still a = (a.0, first_at-still l n still i ∙ a.1, a.2, a.3)

abbrev sent_in : ℕ → List FirstSending → Option ℕ
sent_in o fs = option_map (λ (f : FirstSending). f.number) (find (λ (f : FirstSending). eqb f.opening o) fs)

-- Asks may have read it since, and no notification that counts came.
exchange-still : {start : Start} (l n : List Noted) (t : ℕ) → Still l n → ((key : CacheKey) (i : ℕ) → outdated n key i ≡ outdated l key i)
    → (e : Exchange) → asked_last n e.opening ≡ t → ExchangeIn start l e → ExchangeIn start n (record e { asked = t })
exchange-still {start = start} l n t still quiet e reads a =
    let got = got-same l n e.opening (still.begun_are e.opening) (still.heard_are e.opening a.opening) in record {
      request = a.request;
      opening = still.begun_are e.opening ∙ a.opening;
      peer = a.peer;
      method = a.method;
      number = ap (λ (k : ℕ). start.issued + k) (still.ranks_are e.opening a.opening) ∙ a.number;
      sending = ap (sent_in e.opening) still.firsts_are ∙ a.sending;
      awaits = still.waits_are e.opening ∙ a.awaits;
      observes = still.observes_are e.opening a.opening ∙ a.observes;
      asked = reads;
      named = a.named;
      sent = under-still l n e.peer e.token (awaited_by e.awaits e.sending) still a.sent;
      progress = ap (progress a.request) (still.heard_are e.opening a.opening)
          ∙ (a.progress ∙ ap (progress_with e.work) (sym got));
      newest = λ get. subst (λ (rs : List Reply). IsNewest n (asked_key a.request) rs e.newest) (sym got)
          (newest-same l n (asked_key a.request) (got_in l e.opening) e.newest quiet (a.newest get));
      newest_kept = λ s k. quiet (asked_key a.request) (first_in s.list)
          ∙ a.newest_kept s (sym (kept-same l n e.opening (still.kept_are e.opening a.opening) (still.replies_are e.opening)) ∙ k);
      current = a.current ∙ ap not (sym (outrun-same l n still.openings_are still.begun_are still.ends_are (asked_place a.request) e.opening));
      short = a.short;
      digests = a.digests;
      behind = behind-same l n e.opening _ a.opening (λ y is. still.stands e.opening y is) ∙ a.behind;
    }

-- one is read by an ask, or stays as it was
abbrev pub read_as : (Exchange → ℕ) → Exchange → Exchange
read_as reads e = record e { asked = reads e }

read-openings : (reads : Exchange → ℕ) (es : List Exchange) → map opening_of (map (read_as reads) es) ≡ map opening_of es
read-openings reads [] = refl
read-openings reads (e ∷ es) = ap (λ (os : List ℕ). e.opening ∷ os) (read-openings reads es)

pub unread : (es : List Exchange) → map (read_as (λ (e : Exchange). e.asked)) es ≡ es
unread [] = refl
unread (e ∷ es) = ap (λ (xs : List Exchange). e ∷ xs) (unread es)

pieces-read : (l : List Noted) (reads : Exchange → ℕ) (es : List Exchange) (xs : List Piece) → PiecesIn l es xs → PiecesIn l (map (read_as reads) es) xs
pieces-read l reads es xs h = record {
  fetched = all-map (read_as reads) (λ (e : Exchange). numbers (got_in l e.opening) ≡ numbers_of e.opening xs) es h.fetched;
  below = h.below;
}

stales-read : (l : List Noted) (reads : Exchange → ℕ) (es : List Exchange) (xs : List Stale) → StalesIn l es xs → StalesIn l (map (read_as reads) es) xs
stales-read l reads es xs h = record {
  kept = all-map (read_as reads) (λ (e : Exchange). kept_in l e.opening ≡ stale_in e.opening xs) es h.kept;
  below = h.below;
}

open-still : (l n : List Noted) → Still l n → open_exchanges n ≡ open_exchanges l
open-still l n still = rw (still.openings_are) (filter_agree (is_going n) (is_going l) (λ o. ap is_none (still.ends_are o)) (openings l))

-- Nothing in the history is later than the state's moment, nor is its start.
pub reads-later : (l : List Noted) (t : ℕ) (S : State) → Reads l S → S.moment ≤ t → newest l ≤ t
reads-later l t S r later = let is = r.moment_is in omega (arith, is, later)

pub reads-from : (l : List Noted) (t : ℕ) (S : State) (r : Reads l S) → S.moment ≤ t → r.start.moment ≤ t
reads-from l t S r later = let is = r.moment_is in omega (arith, is, later)

pub reads-now : (l : List Noted) (t : ℕ) (S : State) (r : Reads l S) → S.moment ≤ t → max r.start.moment t ≡ t
reads-now l t S r later = let begins = reads-from l t S r later in omega (arith, begins)

-- A connection that is opened has the number that the state says.
abbrev pub IsNumberedAs : State → Deed → Type 0
IsNumberedAs S (Opens c) = c ≡ S.opened
IsNumberedAs S d = Unit {0}

next-opened : (l : List Noted) (d : Deed) (n : ℕ) → IsNextConn (has_opened l) (opened l) n
    → IsNextConn (opens_by d (has_opened l)) (opened_by d (opened l)) (opened_by d n)
next-opened l (Opens c) n h = refl
next-opened l d n h = h

more-opens : (l : List Noted) (d : Deed) (S : State) (r : Reads l S) → IsNumberedAs S d
    → r.start.opened + opens_once d (opens_in l) ≡ opened_by d S.opened
more-opens l (Opens c) S r h = let is = r.opens_are in omega (arith, is, h)
more-opens l d S r h = r.opens_are

-- the tables after an entry that is nothing to any exchange: links may have changed, but not what waits
pub still-reads : (l : List Noted) (t : ℕ) (d : Deed) (note : Note) (S : State) (links : List PeerLink) (store : List Pair) (watches : List Registration) (reads_last : Exchange → ℕ) (r : Reads l S)
    → StoreIn (noted t d note ∷ l) store → map held_of (H.watches (noted t d note ∷ l)) ≡ watches
    → ((e : Exchange) → ExchangeIn r.start l e → asked_last (noted t d note ∷ l) e.opening ≡ reads_last e) → counting l note ≡ None
    → S.moment ≤ t → IsNumberedAs S d → Follows l t d note
    → (readers : List Reader) → readers_by (length l) d note (readers_of l) ≡ readers → Still l (noted t d note ∷ l) → ((p : Peer) → (link_of links p).waiting ≡ (link_of S.links p).waiting) → ((p : Peer) → Agrees r.start (noted t d note ∷ l) p (link_of links p))
    → Reads (noted t d note ∷ l) (record {
      entries = S.entries ++ record { moment = t; deed = d } ∷ [];
      sealed = sealed_by d S.sealed;
      given = S.given;
      kept = S.kept;
      moment = t;
      opened = opened_by d S.opened;
      issued = S.issued;
      conns = conns_after S.conns (length S.entries) d;
      exchanges = map (read_as reads_last) S.exchanges;
      pieces = S.pieces;
      stales = S.stales;
      readers = readers;
      watches = watches;
      store = store;
      links = links;
    })
still-reads l t d note S links store watches reads_last r stored observed read quiet later numbered follows readers reads still waiting agrees =
    let n = noted t d note ∷ l in record {
      start = r.start;
      few = r.few;
      entries_are = ap (λ (es : List Written). es ++ record { moment = t; deed = d } ∷ []) r.entries_are;
      legal = (r.legal, reads-later l t S r later, follows);
      sealed_is = ap (sealed_by d) r.sealed_is;
      moment_is = reads-now l t S r later;
      opened_are = next-opened l d S.opened r.opened_are;
      opens_are = more-opens l d S r numbered;
      issued_are = ap (λ (k : ℕ). r.start.issued + k) still.issued_are ∙ r.issued_are;
      conns_are = rw (r.conns_are, sym (entries-length l), r.entries_are) refl;
      readers_are = reads;
      keys = open-still l n still ∙ (r.keys ∙ sym (read-openings reads_last S.exchanges));
      exchanges_are = all-map (read_as reads_last) (ExchangeIn r.start n) S.exchanges
          (all-more (ExchangeIn r.start l) (λ (e : Exchange). ExchangeIn r.start n (read_as reads_last e))
          (λ e a. exchange-still l n (reads_last e) still (λ key i. outdated-quiet (noted t d note) l key i quiet) e (read e a) a) S.exchanges r.exchanges_are);
      pieces_are = pieces-read n reads_last S.exchanges S.pieces (pieces-stay l n S.exchanges S.pieces (omega arith)
          (all-more (ExchangeIn r.start l) (λ (e : Exchange). got_in n e.opening ≡ got_in l e.opening)
          (λ e a. got-same l n e.opening (still.begun_are e.opening) (still.heard_are e.opening a.opening)) S.exchanges r.exchanges_are)
          r.pieces_are);
      stales_are = stales-read n reads_last S.exchanges S.stales (stales-stay l n S.exchanges S.stales (omega arith)
          (all-more (ExchangeIn r.start l) (λ (e : Exchange). kept_in n e.opening ≡ kept_in l e.opening)
          (λ e a. kept-same l n e.opening (still.kept_are e.opening a.opening) (still.replies_are e.opening)) S.exchanges r.exchanges_are) r.stales_are);
      watches_are = observed;
      store_is = stored;
      tokens_are = rw (still.firsts_are) r.tokens_are;
      waiting_are = all-map (read_as reads_last) (λ (e : Exchange). WaitsUnder (link_of links e.peer).waiting e) S.exchanges
          (all-more _ (λ (e : Exchange). WaitsUnder (link_of links e.peer).waiting e) (λ e h. rw (waiting e.peer) h) S.exchanges r.waiting_are);
      links_are = agrees;
    }

-- links

pub link-same : (p : Peer) (s : LinkState) (xs : List PeerLink) → link_of (with_link p s xs) p ≡ s
link-same p s [] = rw (same_peer-itself p) refl
link-same p s (x ∷ xs) = by (same_peer x.peer p) refl (link-same p s xs)
  where
    by : (b : Bool) → same_peer x.peer p ≡ b → link_of (with_link p s xs) p ≡ s
        → link_of (cond b (record { peer = x.peer; link = s } ∷ xs) (x ∷ with_link p s xs)) p ≡ s
    by true e ih = rw (e) refl
    by false e ih = rw (e) ih

pub link-other : (p q : Peer) (s : LinkState) → same_peer p q ≡ false → (xs : List PeerLink) → link_of (with_link p s xs) q ≡ link_of xs q
link-other p q s other [] = rw (other) refl
link-other p q s other (x ∷ xs) = by (same_peer x.peer p) refl (link-other p q s other xs)
  where
    by : (b : Bool) → same_peer x.peer p ≡ b → link_of (with_link p s xs) q ≡ link_of xs q
        → link_of (cond b (record { peer = x.peer; link = s } ∷ xs) (x ∷ with_link p s xs)) q ≡ link_of (x ∷ xs) q
    by true e ih = let at_q : same_peer x.peer q ≡ false = subst (λ (r : Peer). same_peer r q ≡ false) (sym (same_peer-same x.peer p e)) other in rw (at_q) refl
    by false e ih = rw (ih) refl

-- What holds of the new link of an endpoint and of the links of the others holds of all.
pub all-links : (P : Peer → LinkState → Type 0) (p : Peer) (s : LinkState) (xs : List PeerLink) → P p s
    → ((q : Peer) → same_peer p q ≡ false → P q (link_of xs q)) → (q : Peer) → P q (link_of (with_link p s xs) q)
all-links P p s xs here others q = by (same_peer p q) refl
  where
    by : (b : Bool) → same_peer p q ≡ b → P q (link_of (with_link p s xs) q)
    by true e = subst (λ (r : Peer). P r (link_of (with_link p s xs) r)) (same_peer-same p q e) (subst (P p) (sym (link-same p s xs)) here)
    by false e = subst (P q) (sym (link-other p q s e xs)) (others q e)

-- What a link gives out is nothing to what it keeps of a history.
pub given-agrees : {start : Start} (l : List Noted) (p : Peer) (s : LinkState) → Agrees start l p s → Agrees start l p (given_out s)
given-agrees l p s a = record { turn = a.turn; known = a.known; last = a.last; count_up = a.count_up; given = a.given; waits = a.waits; awaits = a.awaits; acks = a.acks; heard = a.heard }
