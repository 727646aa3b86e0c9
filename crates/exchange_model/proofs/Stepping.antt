-- A connection opened or shut, the seal, an ask: a step keeps what holds between steps.
use Rattle.std.proofs.Common.{◌≡◌, ◌≢◌, ◌⊎◌, ℕ, suc, ◌+◌, ◌<◌, ◌≤◌, inl, inr, Bool, true, false, cond, eqb, ltb, List, [], ◌∷◌, ◌++◌, length, map, Option, Some, None, refl, sym, ap, subst, ◌∙◌, arith, length-append}
use Rattle.std.specs.Prelude.{filter, not, option_map}
use Rattle.std.specs.List.{AllByRecursion, Contains}
use Rattle.std.proofs.lemmas.List.{length-map}
use Rattle.std.proofs.lemmas.Bool.{ltb-true}
use Rattle.std.proofs.lemmas.Bool.Decides.{eqb_tells}
use Rattle.std.proofs.lemmas.List.Sums.{length-filter}
use Rattle.limits.specs.declared.TheConstants.{MAX_MESSAGE_IDS, MAX_TRANSMIT_WAIT}
use Rattle.uri_map.specs.declared.peer.Peer.{Peer}
use Rattle.uri_map.specs.Peers.{same_peer}
use Rattle.uri_map.proofs.CallerLemmas.{same_peer-same}
use Rattle.message_layer.specs.Values.{LinkState}
use Rattle.message_layer.specs.Mids.{is_in_use}
use Rattle.message_layer.specs.Sending.{due_of, mids_in_use, waits, queued}
use Rattle.message_layer.specs.declared.state.Outstanding.{Outstanding}
use Rattle.message_layer.specs.declared.state.Waiting.{Waiting}
use Rattle.resp_cache.specs.Stored.{Stored}
use Rattle.resp_cache.specs.Stores.{moved}
use Rattle.resp_cache.specs.declared.pair.Pair.{Pair}
use Rattle.ask_model.specs.Sharing.{asked_key}
use Rattle.ask_model.specs.declared.cause.Cause.{Cause}
use Rattle.ask_model.specs.Requests.{CoapRequest, Sense, Requests, Refuses}
use Rattle.ask_model.specs.Views.{Ask}
use Rattle.ask_model.specs.declared.cause.Cause.TheVariants as C
use Rattle.journal_book.specs.Entries.{Grounds, Kept as KeptGround, Fault, Asks}
use Rattle.history_laws.specs.Justified.{UnservedNote, HasGrounds, AskNote, Caused, IsRefused, MayCome, pending}
use Rattle.history_laws.specs.Readings.{Note, Serves, Noted, Plain, at, ticked, noted}
use Rattle.history_laws.specs.Causes.{IsRefusal}
use Rattle.history_laws.specs.Connections.{is_open, asks_of, answers_of}
use Rattle.history_laws.specs.Hearing.{has_room}
use Rattle.history_laws.proofs.CallerLemmas.{contains-none, find-some, first-or-later, all-filter, all-more, all-passes, all-push, and-right, at-new, entries-length, eqb-itself}
use Rattle.history_links.specs.Agrees.{Start, WaitIn}
use Rattle.exchange_model.specs.Calls.{IsAlone, served_in, serves, asked_for, next, refused, has_place, is_joined, joined, asked_with, asked_by}
use Rattle.exchange_model.specs.Laws.{Leads, Before, MayAsk}
use Rattle.exchange_model.specs.declared.kept.Conn.{Conn}
use Rattle.exchange_model.specs.declared.kept.Exchange.{Exchange}
use Rattle.exchange_model.specs.declared.kept.Reader.{Reader}
use Rattle.exchange_model.specs.State.{State, link_of, pend}
use Rattle.exchange_model.specs.Reads.{Reads, opening_of}
use Rattle.exchange_model.specs.Steps.{asks, begins, joins, exchange_for, read_at, reader_for, unwatched, answers, kept_for, opening_note}
use Rattle.exchange_model.specs.Hearing.{Numbers}
use Rattle.exchange_model.specs.Resting.{IsUndue, LinkRests, HasExchange, HasReader, IsServed, HasConn, Rests}
use Rattle.exchange_model.specs.Keeping.{HasMids, Kept, MayStep, KeptStands, OpensKeeps, ShutsKeeps, SealsKeeps, IsProper, IsNumbered, AsksKeeps}
use Rattle.exchange_model.proofs.Quiet.{misses-tell, recalls-leads, asks-leads, joins-leads}
use Rattle.exchange_model.proofs.Amid.{Amid, Moved, RestAt, IsEarly, tick-before, next-moves}
use Rattle.exchange_model.proofs.Begins.{begins-leads}
use Rattle.exchange_model.proofs.Conns.{PendingIn, ConnIn, conns-open, slice_get-push}
use Rattle.exchange_model.proofs.ConnsTell.{conns-tell}
use Rattle.exchange_model.proofs.Readers.{ReaderIn, older-asks, readers-wait}
use Rattle.exchange_model.proofs.Telling.{all-conns, apart-by, conn-of, has-left, other-by, reader-is}
use Rattle.exchange_model.proofs.Lists.{all-map, all-both}
use Rattle.exchange_model.proofs.Joined.{joins-tell}
use Rattle.exchange_model.proofs.Resting.{rests-at-rest}
use Rattle.exchange_model.proofs.Silent.{opens-leads, shuts-leads, seals-leads, answers-leads, now-from}
use Rattle.exchange_model.proofs.Tables.{link-other, all-links}

pub kept-stands : KeptStands
kept-stands S k = record { reading = k.reading; entries_are = k.rests.reads.entries_are; legal = k.rests.reads.legal; at_rest = rests-at-rest k.reading S k.rests }

pub may-come : (t : ℕ) (S : State) (m : MayStep t S) → MayCome m.kept.reading
may-come t S m = (m.kept.rests.reads.sealed_is ∙ m.unsealed, rests-at-rest m.kept.reading S m.kept.rests)

pub before-step : (t : ℕ) (S : State) (m : MayStep t S) → Before m.kept.reading t S
before-step t S m = record { reads = m.kept.rests.reads; later = m.later }

-- connections and the seal

pub opens-keeps : OpensKeeps
opens-keeps t S m =
    let r = m.kept.rests in
    let made = opens-leads m.kept.reading t S (before-step t S m) (may-come t S m) in
    record {
      reading = _;
      rests = record { reads = made.reads; quiet = refl; links = r.links; in_time = r.in_time; served = all-push (λ (x : Conn). IsServed S.readers x.pending) S.conns _ r.served tt; reading = r.reading };
      mids = m.kept.mids;
    }

-- Whose connection is shut reads no more, and the others go on.
abbrev others : ℕ → List Reader → List Reader
others c rs = filter (λ (r : Reader). not (eqb r.conn c)) rs

others-has : (c : ℕ) (rs : List Reader) (j : ℕ) → AllByRecursion (λ (r : Reader). r.ask ≡ j → r.conn ≢ c) rs → HasReader rs j → HasReader (others c rs) j
others-has c [] j a h = h
others-has c (r ∷ rs) j a (inl h) = rw (other-by r.conn c (a.0 h)) (inl h)
others-has c (r ∷ rs) j a (inr h) = by (not (eqb r.conn c)) (others-has c rs j a.1 h)
  where
    by : (b : Bool) → HasReader (others c rs) j → HasReader (cond b (r ∷ others c rs) (others c rs)) j
    by true ih = inr ih
    by false ih = ih

served-others : (c : ℕ) (rs : List Reader) (x : Conn) → ((j : ℕ) → x.pending ≡ Some j → HasReader rs j → HasReader (others c rs) j) → IsServed rs x.pending → IsServed (others c rs) x.pending
served-others c rs x stays h = by x.pending refl h
  where
    by : (v : Option ℕ) → x.pending ≡ v → IsServed rs v → IsServed (others c rs) v
    by None is h = tt
    by (Some j) is h = stays j is h

reader-stays : (l : List Noted) (S : State) (c : ℕ) → Reads l S
    → AllByRecursion (λ (x : Conn). (j : ℕ) → x.pending ≡ Some j → HasReader S.readers j → HasReader (others c S.readers) j) (filter (λ (x : Conn). not (eqb x.id c)) S.conns)
reader-stays l S c reads =
    all-more (λ (x : Conn). HasConn S.conns x.id x.pending × (not (eqb x.id c) ≡ true)) _ one (filter (λ (x : Conn). not (eqb x.id c)) S.conns)
    (all-both (λ (x : Conn). HasConn S.conns x.id x.pending) _ (filter (λ (x : Conn). not (eqb x.id c)) S.conns)
    (all-filter (λ (x : Conn). HasConn S.conns x.id x.pending) (λ (x : Conn). not (eqb x.id c)) S.conns (all-conns (λ (x : Conn). HasConn S.conns x.id x.pending) S.conns (λ x h. h)))
    (all-passes (λ (x : Conn). not (eqb x.id c)) S.conns))
  where
    one : (x : Conn) → HasConn S.conns x.id x.pending × (not (eqb x.id c) ≡ true) → (j : ℕ) → x.pending ≡ Some j → HasReader S.readers j → HasReader (others c S.readers) j
    one x h j is has = others-has c S.readers j
        (all-more (ReaderIn l) (λ (r : Reader). r.ask ≡ j → r.conn ≢ c) (λ r a same away. apart-by x.id c h.1
        (reader-is l S x.id r reads a (subst (HasConn S.conns x.id) (is ∙ ap Some (sym same)) h.0) ∙ away)) S.readers
        (subst (AllByRecursion (ReaderIn l)) reads.readers_are (readers-wait l reads.legal))) has

pub shuts-keeps : ShutsKeeps
shuts-keeps t c p S k later h =
    let r = k.rests in
    let told = (conns-tell k.reading S c r.reads).1 p h in
    let made = shuts-leads k.reading t c S (record { reads = r.reads; later = later }) r.quiet told.0 in
    record {
      reading = _;
      rests = record {
        reads = made.reads;
        quiet = refl;
        links = r.links;
        in_time = r.in_time;
        served = all-more (λ (x : Conn). ((j : ℕ) → x.pending ≡ Some j → HasReader S.readers j → HasReader (others c S.readers) j) × IsServed S.readers x.pending)
            (λ (x : Conn). IsServed (others c S.readers) x.pending) (λ x h. served-others c S.readers x h.0 h.1) (filter (λ (x : Conn). not (eqb x.id c)) S.conns)
            (all-both _ _ (filter (λ (x : Conn). not (eqb x.id c)) S.conns) (reader-stays k.reading S c r.reads)
            (all-filter (λ (x : Conn). IsServed S.readers x.pending) (λ (x : Conn). not (eqb x.id c)) S.conns r.served));
        reading = all-filter (λ (x : Reader). HasExchange S.exchanges x.opening) (λ (x : Reader). not (eqb x.conn c)) S.readers r.reading;
      };
      mids = k.mids;
    }

pub seals-keeps : SealsKeeps
seals-keeps t S m full =
    let r = m.kept.rests in
    let made = seals-leads m.kept.reading t S (before-step t S m) (may-come t S m) full in
    record { reading = _; rests = record { reads = made.reads; quiet = refl; links = r.links; in_time = r.in_time; served = r.served; reading = r.reading }; mids = m.kept.mids }

-- the connection that asks

may-ask : (l : List Noted) (S : State) (c : ℕ) → Rests l S → HasConn S.conns c None → MayAsk l c
may-ask l S c r h =
    let all = subst (AllByRecursion (ConnIn l)) r.reads.conns_are (conns-open l r.reads.legal) in
    let x = conn-of (ConnIn l) S.conns c None all h in
    by x.0 x.0.pending x.1 x.2 refl x.3
  where
    by : (x : Conn) (v : Option ℕ) → ConnIn l x → x.id ≡ c → x.pending ≡ v → x.pending ≡ None → MayAsk l c
    by x v i id is none =
        record {
          open_now = subst (λ (k : ℕ). is_open l k ≡ true) id i.open_now;
          idle = subst (λ (k : ℕ). length (asks_of l k) ≡ length (answers_of l k)) id (subst (PendingIn l x.id) none i.waits);
        }

-- there is room in the history where there is a place in the state

as-many : (start : Start) (l : List Noted) (os : List ℕ) (ws : List Waiting) → WaitIn start l os ws → length os ≡ length ws
as-many start l [] [] a = refl
as-many start l [] (w ∷ ws) a = absurd a
as-many start l (o ∷ os) [] a = absurd a
as-many start l (o ∷ os) (w ∷ ws) a = ap suc (as-many start l os ws a.1)

pub room-same : (l : List Noted) (t : ℕ) (q : CoapRequest) (S : State) → Before l t S → has_room l t q ≡ has_place t q.peer S
room-same l t q S b =
    let r = b.reads in
    let agrees = r.links_are q.peer in
    rw (r.keys, length-map S.exchanges opening_of, as-many r.start l _ _ agrees.waits, ← agrees.given t (now-from l t S b)) refl

-- An ask that is answered at once.

caused : (l : List Noted) (t k : ℕ) (cause : Cause) → IsRefusal cause → IsRefused l k cause → Caused l t k cause k
caused l t k C.Busy is a = absurd is
caused l t k C.Timeout is a = absurd is
caused l t k C.Reset is a = absurd is
caused l t k C.NotUnderstood is a = absurd is
caused l t k cause is a = (is, refl, a)

has-below : (rs : List Reader) (n j : ℕ) → AllByRecursion (λ (r : Reader). r.ask < n) rs → HasReader rs j → j ≢ n
has-below [] n j a h = absurd h
has-below (r ∷ rs) n j a (inl h) = λ e. let less = a.0 in omega (arith, less, h, e)
has-below (r ∷ rs) n j a (inr h) = has-below rs n j a.1 h

-- An ask that is answered at once was no reader's.
served-again : (rs : List Reader) (c n : ℕ) (x : Conn) → AllByRecursion (λ (r : Reader). r.ask < n) rs → IsServed rs x.pending
    → IsServed (filter (λ (r : Reader). not (eqb r.ask n)) rs) (pend c None (pend c (Some n) x)).pending
served-again rs c n x below h = elim (eqb_tells x.id c) [ inl w ↦ rw (w.0, w.0) tt | inr w ↦ rw (w.0, w.0) (by x.pending h) ]
  where
    by : (v : Option ℕ) → IsServed rs v → IsServed (filter (λ (r : Reader). not (eqb r.ask n)) rs) v
    by None h = tt
    by (Some j) h = has-left rs n j h (has-below rs n j below h)

answered-now : (t c : ℕ) (a : Ask) (note : Note) (g : Grounds) (store : List Pair) (S : State) (m : MayStep t S) → HasConn S.conns c None
    → (let S1 = asks t c a S in Leads m.kept.reading (noted t (Asks c a) note) (record S1 { store = store }))
    → (at (noted t (Asks c a) note ∷ m.kept.reading) (length S.entries) ≡ Some (noted t (Asks c a) note) → HasGrounds (noted t (Asks c a) note ∷ m.kept.reading) t (length S.entries) g)
    → (let S1 = asks t c a S in Kept (answers t c (length S.entries) g (record S1 { store = store })))
answered-now t c a note g store S m h first why =
    let l = m.kept.reading in
    let r = m.kept.rests in
    let who = may-ask l S c r h in
    let x = noted t (Asks c a) note in
    let S1 = asks t c a S in
    let here : length S.entries ≡ length l = ap length (sym r.reads.entries_are) ∙ entries-length l in
    let turn : pending (x ∷ l) c ≡ Some (length S.entries) = rw (eqb-itself c, here) (slice_get-push (asks_of l c) (length l) _ who.idle) in
    let stands : at (x ∷ l) (length S.entries) ≡ Some x = subst (λ (k : ℕ). at (x ∷ l) k ≡ Some x) (sym here) (at-new x l) in
    let left = filter (λ (x : Reader). not (eqb x.ask (length S.entries))) S.readers in
    let below = subst (λ (k : ℕ). AllByRecursion (λ (x : Reader). x.ask < k) S.readers) (sym here)
    (subst (AllByRecursion (λ (x : Reader). x.ask < length l)) r.reads.readers_are (older-asks l r.reads.legal)) in
    let made = answers-leads (x ∷ l) t c (length S.entries) g (record S1 { store = store })
    (record { reads = first.reads; later = omega arith }) refl who.open_now turn (why stands) in
    record {
      reading = _;
      rests = record {
        reads = made.reads;
        quiet = refl;
        links = r.links;
        in_time = r.in_time;
        served = all-map (pend c None) (λ (y : Conn). IsServed left y.pending) (map (pend c (Some (length S.entries))) S.conns)
            (all-map (pend c (Some (length S.entries))) (λ (y : Conn). IsServed left (pend c None y).pending) S.conns
            (all-more _ _ (λ y k. served-again S.readers c (length S.entries) y below k) S.conns r.served));
        reading = all-filter (λ (x : Reader). HasExchange S.exchanges x.opening) (λ (x : Reader). not (eqb x.ask (length S.entries))) S.readers r.reading;
      };
      mids = m.kept.mids;
    }

at-once : (t c : ℕ) (a : Ask) (cause : Cause) (S : State) (m : MayStep t S) → HasConn S.conns c None → AskNote m.kept.reading t a.sense Plain → UnservedNote m.kept.reading t a.sense Plain
    → ((l : List Noted) (k : ℕ) → at l k ≡ Some (noted t (Asks c a) Plain) → Caused l t k cause k) → Kept (refused t c a cause S)
at-once t c a cause S m h note misses why =
    answered-now t c a Plain (Fault cause (length S.entries)) S.store S m h
    (asks-leads m.kept.reading t c a S (before-step t S m) (may-come t S m) (may-ask m.kept.reading S c m.kept.rests h) note misses)
    (λ stands. why (noted t (Asks c a) Plain ∷ m.kept.reading) (length S.entries) stands)

-- One that what is stored answers.
served-to : (t c : ℕ) (a : Ask) (q : CoapRequest) (s : Stored) (S : State) (m : MayStep t S) → HasConn S.conns c None → a.sense ≡ Requests q → served_in q t S ≡ Some s
    → Kept (serves t c a q s S)
served-to t c a q s S m h sense served =
    answered-now t c a (Serves s.list) (KeptGround s.list) (moved (asked_key q) t S.store) S m h
    (recalls-leads m.kept.reading t c a q s S (before-step t S m) (may-come t S m) (may-ask m.kept.reading S c m.kept.rests h) sense served)
    (λ stands. (c, a, stands))

-- An ask that opens an exchange.

pub enough-ids : (t : ℕ) (s : LinkState) (w : Waiting) → HasMids s → w.first_mid < 65536 → mids_in_use t s < MAX_MESSAGE_IDS → HasMids (queued t w s)
enough-ids t s w h small few = record {
  small = all-push (λ (v : Waiting). v.first_mid < 65536) s.waiting w h.small small;
  enough = by (ltb (length s.given + length s.waiting) 32768) refl;
}
  where
    more : length (s.waiting ++ w ∷ []) ≡ length s.waiting + 1
    more = length-append s.waiting (w ∷ [])

    by : (b : Bool) → ltb (length s.given + length s.waiting) 32768 ≡ b → length (cond b s.given (filter (is_in_use t) s.given)) + length (s.waiting ++ w ∷ []) ≤ MAX_MESSAGE_IDS
    by true e = let less = ltb-true _ _ e in omega (arith, less, more)
    by false e = let count = length-filter (is_in_use t) s.given in omega (arith, few, count, more)

has-reader : (rs : List Reader) (r : Reader) → HasReader (rs ++ r ∷ []) r.ask
has-reader [] r = inl refl
has-reader (y ∷ rs) r = inr (has-reader rs r)

had-reader : (rs : List Reader) (r : Reader) (k : ℕ) → HasReader rs k → HasReader (rs ++ r ∷ []) k
had-reader [] r k h = absurd h
had-reader (y ∷ rs) r k (inl h) = inl h
had-reader (y ∷ rs) r k (inr h) = inr (had-reader rs r k h)

served-new : (rs : List Reader) (r : Reader) (c : ℕ) (x : Conn) → IsServed rs x.pending → IsServed (rs ++ r ∷ []) (pend c (Some r.ask) x).pending
served-new rs r c x h = elim (eqb_tells x.id c) [ inl w ↦ rw (w.0) (has-reader rs r) | inr w ↦ rw (w.0) (by x.pending h) ]
  where
    by : (v : Option ℕ) → IsServed rs v → IsServed (rs ++ r ∷ []) v
    by None h = tt
    by (Some k) h = had-reader rs r k h

has-new : (es : List Exchange) (e : Exchange) → HasExchange (es ++ e ∷ []) e.opening
has-new [] e = inl refl
has-new (y ∷ es) e = inr (has-new es e)

has-old : (es : List Exchange) (e : Exchange) (k : ℕ) → HasExchange es k → HasExchange (es ++ e ∷ []) k
has-old [] e k h = absurd h
has-old (y ∷ es) e k (inl h) = inl h
has-old (y ∷ es) e k (inr h) = inr (has-old es e k h)

opened-for : (t c : ℕ) (a : Ask) (q : CoapRequest) (n : Numbers) (S : State) (m : MayStep t S) → HasConn S.conns c None → a.sense ≡ Requests q → IsNumbered t a q n S
    → IsAlone t q S → has_place t q.peer S ≡ true → Kept (next t q.peer (begins t c a q n.token n.text n.word S))
opened-for t c a q n S m h sense numbered none place =
    let l = m.kept.reading in
    let r = m.kept.rests in
    let p = q.peer in
    let b = before-step t S m in
    let made = begins-leads l t c a q n.token n.text n.word S b (may-come t S m) (may-ask l S c r h) sense (misses-tell l t q S b none.0) (joins-tell l S r.reads q ∙ ap (option_map opening_of) none.1) (room-same l t q S b ∙ place) numbered.short numbered.spelled numbered.token_size numbered.number in
    let x = noted t (Asks c a) (opening_note q (kept_for t a q S)) in
    let S1 = begins t c a q n.token n.text n.word S in
    let w = waits n.token n.text n.word in
    let s = queued t w (unwatched q S) in
    let tick = tick-before l t S b in
    let few : mids_in_use t (link_of S.links p) < MAX_MESSAGE_IDS = ltb-true _ _ (and-right (ltb (length (link_of S.links p).waiting) 64) _ (and-right (ltb (length S.exchanges) 256) _ place)) in
    let amid : Amid (x ∷ l) t S1 = record {
      before = record { reads = made.reads; later = omega arith };
      unsealed = m.unsealed;
      mids = all-links (λ (k : Peer) (u : LinkState). HasMids u) p s S.links (enough-ids t (unwatched q S) w (record { small = (m.kept.mids p).small; enough = (m.kept.mids p).enough }) (omega arith) few) (λ k away. m.kept.mids k);
      in_time = all-push (λ (e : Exchange). ticked l < e.since + MAX_TRANSMIT_WAIT) S.exchanges (exchange_for t a q n.token S) r.in_time (omega (arith, tick));
    } in
    let early : IsEarly (x ∷ l) S1 p = all-links (λ (k : Peer) (u : LinkState). (o : Outstanding) → u.outstanding ≡ Some o → ticked l < due_of o) p s S.links
    (λ o is. undue (ticked l) (link_of S.links p) o (r.links p) is) (λ k away o is. undue (ticked l) (link_of S.links k) o (r.links k) is) p in
    let moved = next-moves (x ∷ l) t p S1 amid refl early in
    record {
      reading = moved.0;
      rests = record {
        reads = moved.1.amid.before.reads;
        quiet = moved.1.quiet;
        links = λ k. by k moved.0 moved.1 moved.2 (same_peer p k) refl;
        in_time = moved.1.amid.in_time;
        served = rw (moved.1.conns, moved.1.readers) (all-map (pend c (Some (length S.entries))) (λ (y : Conn). IsServed S1.readers y.pending) S.conns
            (all-more _ _ (λ y k. served-new S.readers (reader_for c S) c y k) S.conns r.served));
        reading = rw (moved.1.readers) (all-more (λ (x : Reader). HasExchange S1.exchanges x.opening) (λ (x : Reader). HasExchange (next t p S1).exchanges x.opening) (λ x k. moved.1.has x.opening k) S1.readers
            (all-push (λ (x : Reader). HasExchange S1.exchanges x.opening) S.readers (reader_for c S)
            (all-more _ _ (λ x k. has-old S.exchanges (exchange_for t a q n.token S) x.opening k) S.readers r.reading) (has-new S.exchanges (exchange_for t a q n.token S))));
      };
      mids = moved.1.amid.mids;
    }
  where
    undue : (tick : ℕ) (s : LinkState) (o : Outstanding) → LinkRests tick s → s.outstanding ≡ Some o → tick < due_of o
    undue tick s o h is = subst (λ (v : Option Outstanding). IsUndue tick v s.waiting) is h

    by : (k : Peer) (n1 : List Noted) → Moved (noted t (Asks c a) (opening_note q (kept_for t a q S)) ∷ m.kept.reading) t q.peer (begins t c a q n.token n.text n.word S) n1 (next t q.peer (begins t c a q n.token n.text n.word S))
        → RestAt n1 (next t q.peer (begins t c a q n.token n.text n.word S)) q.peer → (v : Bool) → same_peer q.peer k ≡ v
        → RestAt n1 (next t q.peer (begins t c a q n.token n.text n.word S)) k
    by k n1 moved rest true is = subst (RestAt n1 (next t q.peer (begins t c a q n.token n.text n.word S))) (same_peer-same q.peer k is) rest
    by k n1 moved rest false is =
        let same = moved.others k is ∙ link-other q.peer k (queued t (waits n.token n.text n.word) (unwatched q S)) is S.links in
        rw (same, moved.goes.tick) (m.kept.rests.links k)

-- An ask that reads along.
has-opening : (es : List Exchange) (e : Exchange) → Contains es e → HasExchange es e.opening
has-opening [] e h = absurd (contains-none e h)
has-opening (x ∷ es) e h = by (first-or-later x es e h) (λ k. has-opening es e k)
  where
    by : (x ≡ e) ⊎ Contains es e → (Contains es e → HasExchange es e.opening) → HasExchange (x ∷ es) e.opening
    by (inl same) later = inl (ap (λ (y : Exchange). y.opening) same)
    by (inr k) later = inr (later k)

read-has : (t o : ℕ) (es : List Exchange) (k : ℕ) → HasExchange es k → HasExchange (map (read_at t o) es) k
read-has t o [] k h = absurd h
read-has t o (e ∷ es) k (inl h) = inl h
read-has t o (e ∷ es) k (inr h) = inr (read-has t o es k h)

joined-to : (t c : ℕ) (a : Ask) (q : CoapRequest) (e : Exchange) (S : State) (m : MayStep t S) → HasConn S.conns c None → a.sense ≡ Requests q → served_in q t S ≡ None → joined q S ≡ Some e
    → Kept (joins t c a e.opening S)
joined-to t c a q e S m h sense unserved found =
    let l = m.kept.reading in
    let r = m.kept.rests in
    let made = joins-leads l t c a q e.opening S (before-step t S m) (may-come t S m) (may-ask l S c r h) sense (misses-tell l t q S (before-step t S m) unserved) (joins-tell l S r.reads q ∙ ap (option_map opening_of) found) in
    let new : Reader = record { ask = length S.entries; conn = c; opening = e.opening } in
    let it = find-some (is_joined S.entries q) S.exchanges e found in
    record {
      reading = _;
      rests = record {
        reads = made.reads;
        quiet = refl;
        links = r.links;
        in_time = all-map (read_at t e.opening) (λ (f : Exchange). ticked l < f.since + MAX_TRANSMIT_WAIT) S.exchanges r.in_time;
        served = all-map (pend c (Some (length S.entries))) (λ (y : Conn). IsServed (S.readers ++ new ∷ []) y.pending) S.conns
            (all-more _ _ (λ y k. served-new S.readers new c y k) S.conns r.served);
        reading = all-more (λ (x : Reader). HasExchange S.exchanges x.opening) _ (λ x k. read-has t e.opening S.exchanges x.opening k) (S.readers ++ new ∷ [])
            (all-push (λ (x : Reader). HasExchange S.exchanges x.opening) S.readers new r.reading (has-opening S.exchanges e it.0));
      };
      mids = m.kept.mids;
    }

pub asks-keeps : AsksKeeps
asks-keeps t c a n S m h proper numbered = by a.sense refl
  where
    refusal : (cause : Cause) (status : ℕ) → a.sense ≡ Refuses cause status → IsRefusal cause
    refusal cause status is = subst IsProper is proper

    by : (s : Sense) → a.sense ≡ s → Kept (asked_by s t c a n S)
    by (Refuses cause status) is = at-once t c a cause S m h (rw (is) tt) (rw (is) tt)
        (λ l k stands. caused l t k cause (refusal cause status is) (record { conn = c; ask = a; status = status; asked = record { moment = t; note = Plain; stands = stands }; sense = is }))
    by (Requests q) is = for (served_in q t S) refl
      where
        place : served_in q t S ≡ None → joined q S ≡ None → (v : Bool) → has_place t q.peer S ≡ v → Kept (cond v (next t q.peer (begins t c a q n.token n.text n.word S)) (refused t c a C.Busy S))
        place unserved none true e = opened-for t c a q n S m h is (numbered q is (unserved, none) e) (unserved, none) e
        place unserved none false e = at-once t c a C.Busy S m h
            (rw (is) (joins-tell m.kept.reading S m.kept.rests.reads q ∙ ap (option_map opening_of) none, room-same m.kept.reading t q S (before-step t S m) ∙ e))
            (rw (is) (misses-tell m.kept.reading t q S (before-step t S m) unserved))
            (λ l k stands. (refl, inl (record { moment = t; conn = c; ask = a; request = q; stands = stands; sense = is })))

        with : served_in q t S ≡ None → (v : Option Exchange) → joined q S ≡ v → Kept (asked_with v t c a q n S)
        with unserved (Some e) found = joined-to t c a q e S m h is unserved found
        with unserved None none = place unserved none (has_place t q.peer S) refl

        for : (v : Option Stored) → served_in q t S ≡ v → Kept (asked_for v t c a q n S)
        for (Some s) served = served-to t c a q s S m h is served
        for None unserved = with unserved (joined q S) refl
