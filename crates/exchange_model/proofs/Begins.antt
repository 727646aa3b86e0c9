-- An ask opens an exchange.
use Rattle.std.proofs.Common.{◌≡◌, ℕ, ◌+◌, ◌<◌, inl, inr, Bool, true, false, ltb, not, List, [], ◌∷◌, ◌++◌, length, map, Option, refl, sym, ap, subst, ◌∙◌, arith, Some, None, cond, eqb}
use Rattle.std.specs.Prelude.{is_none, is_some, ◌&&◌, ◌||◌, find, filter, option_map}
use Rattle.std.specs.List.{AllByRecursion, Contains, list_any}
use Rattle.std.specs.Str.{bytes_eq}
use Rattle.std.proofs.lemmas.Slice.Eq.{bytes_eq-Decides}
use Rattle.std.proofs.lemmas.Bool.{and_parts, not-true}
use Rattle.std.proofs.lemmas.Bool.Decides.{eqb_tells}
use Rattle.std.proofs.lemmas.List.{map_push}
use Rattle.std.proofs.lemmas.List.Elements.{Contains-push_cases}
use Rattle.uri_map.specs.declared.peer.Peer.{Peer}
use Rattle.uri_map.specs.Peers.{same_peer}
use Rattle.message_layer.specs.Values.{LinkState}
use Rattle.message_layer.specs.Sending.{waits, queued}
use Rattle.message_layer.specs.declared.state.Waiting.{Waiting}
use Rattle.cache_key.specs.Keys.{CacheKey, same_key}
use Rattle.cache_key.proofs.CallerLemmas.{keys_decided}
use Rattle.coap_codec.specs.Spelling.{Spells}
use Rattle.observe_share.specs.declared.registration.Registration.{Registration}
use Rattle.observe_share.specs.Watches.{without}
use Rattle.ask_model.specs.Requests.{CoapRequest, opening_message, Manner, Sense, Requests}
use Rattle.ask_model.specs.Views.{Ask}
use Rattle.ask_model.specs.Observing.{may_observe}
use Rattle.ask_model.specs.Sharing.{asked_key, asked_place, is_get}
use Rattle.journal_book.specs.Entries.{Asks, Written}
use Rattle.history_laws.specs.Numbering.{token_number}
use Rattle.history_laws.specs.Readings.{Noted, Begins, noted, Note, Renews}
use Rattle.history_laws.specs.Transmissions.{FirstSending, firsts, first_at, bears_token}
use Rattle.history_laws.specs.Exchanges.{Begun, openings, is_going, is_waiting, waiting, kept_by}
use Rattle.history_laws.specs.Observing.{asked_last, is_for, most_watches, wants_by, watches, Watch, asked_by, asked_last_by, counting, manner_by, tag_of, would_observe, outdated}
use Rattle.history_laws.specs.Hearing.{went_under, has_room}
use Rattle.history_laws.specs.Justified.{Follows, AskNote, Legal, MissNote, UnservedNote}
use Rattle.history_laws.specs.Exchanges as H
use Rattle.history_laws.proofs.CallerLemmas.{all-more, all-push, at-new, begins-at, begun-below, behind-at, contains-none, none-outran, entries-length, eqb-itself, filter-push, first-or-later, not-yet, opened-issued, opened-rank, rank-below, replies-none, unbegun, waiting-all, waiting-goes, all-of, find-some, none-some, some-is}
use Rattle.history_links.specs.Agrees.{Start, WaitIn, IsWaitingFor, Agrees, awaits}
use Rattle.history_links.specs.Steps.{Forgets, IsOpening, first_manner}
use Rattle.history_links.proofs.CallerLemmas.{ask-elsewhere, awaited-same, queued-agrees, begun-here, kept-here, opens-for, wants-here}
use Rattle.exchange_model.specs.declared.kept.Exchange.{Exchange}
use Rattle.exchange_model.specs.State.{PeerLink, State, link_of, with_link}
use Rattle.exchange_model.specs.Watching.{is_one_of, is_renewed_by, tokens_of, wants}
use Rattle.exchange_model.specs.Reads.{ExchangeIn, got_in, held_of, IsNewest, WaitsUnder, opening_of, Reads, PairIn, StalesIn, kept_in, kept_yet, reader_at, readers_by, readers_of}
use Rattle.exchange_model.specs.Steps.{as_pieces, exchange_for, unwatched, asks_so, if_tagged, kept_for, opening_note, stale_for}
use Rattle.exchange_model.specs.Matters.{numbers_of, stale_in}
use Rattle.history_laws.specs.Progress.{Reply, numbers}
use Rattle.exchange_model.specs.Laws.{BeginsLeads}
use Rattle.exchange_model.proofs.Pieces.{got-new, first-progress, none-of-new, pieces-quiet, unsent-new}
use Rattle.exchange_model.proofs.Lists.{all-both}
use Rattle.exchange_model.proofs.Opened.{OpenIn, open-ones}
use Rattle.exchange_model.proofs.Outrun.{current-still, none-ends}
use Rattle.exchange_model.proofs.Stores.{store-still}
use Rattle.exchange_model.proofs.Tables.{exchange-stays, all-links}
use Rattle.exchange_model.proofs.Silent.{later-than, link-before, moment-now}
use Rattle.exchange_model.proofs.Watches.{forgets-these, map-filtered, map-length, newest-quiet, unnoticed-these, outdated-quiet}
use Rattle.resp_cache.specs.Stored.{Stored, is_fresh}
use Rattle.resp_cache.specs.Stores.{is_stale_under, stale_under, stored_in}
use Rattle.resp_cache.specs.declared.pair.Pair.{Pair}
use Rattle.history_laws.specs.Storing.{IsStored, MissesAlone, first_in, pieces_of}
use Rattle.history_laws.specs.Joining.{joins}
use Rattle.exchange_model.specs.declared.kept.Reader.{Reader}
use Rattle.exchange_model.proofs.Stales.{kept-stays, stale-new, stale-old, stales-more}
use Rattle.exchange_model.proofs.StoredAlike.{stored-alike}
use Rattle.exchange_model.proofs.Shape.{pieces-newest}
use Rattle.exchange_model.proofs.Confirmed.{pieces-told}
use Rattle.exchange_model.proofs.Uses.{NotServing}

-- lists

-- what waits has a number that was issued

pub waits-for-one : (start : Start) (l : List Noted) (P : ℕ → Type 0) (os : List ℕ) (ws : List Waiting) (v : Waiting) → AllByRecursion P os → WaitIn start l os ws → Contains ws v
    → (o : ℕ) × IsWaitingFor start l o v × P o
waits-for-one start l P os [] v all a h = absurd (contains-none v h)
waits-for-one start l P [] (w ∷ ws) v all a h = absurd a
waits-for-one start l P (o ∷ os) (w ∷ ws) v all a h = elim (first-or-later w ws v h) [
  | inl e ↦ (o, subst (IsWaitingFor start l o) e a.0, all.0)
  | inr k ↦ waits-for-one start l P os ws v all.1 a.1 k
]

pub below-issued : (l : List Noted) (S : State) (p : Peer) (v : Waiting) → Reads l S → Contains (link_of S.links p).waiting v → token_number v.token < S.issued
below-issued l S p v r h =
    let one = waits-for-one r.start l (λ (o : ℕ). is_waiting l p o ≡ true) (waiting l p) (link_of S.links p).waiting v (waiting-all l p) (r.links_are p).waits h in
    let less = rank-below l one.0 _ r.legal one.1.opening (ap is_none (waiting-goes l p one.0 one.2)) in
    let number = one.1.numbered in
    let issued = r.issued_are in
    omega (arith, less, number, issued)

-- What holds of the waiting messages of the new link holds of all.
pub waits-with : (p : Peer) (s : LinkState) (links : List PeerLink) (es : List Exchange)
    → AllByRecursion (λ (e : Exchange). e.peer ≡ p → WaitsUnder s.waiting e) es
    → AllByRecursion (λ (e : Exchange). WaitsUnder (link_of links e.peer).waiting e) es
    → AllByRecursion (λ (e : Exchange). WaitsUnder (link_of (with_link p s links) e.peer).waiting e) es
waits-with p s links [] new old = tt
waits-with p s links (e ∷ es) new old = (
  all-links (λ (q : Peer) (v : LinkState). e.peer ≡ q → WaitsUnder v.waiting e) p s links new.0
      (λ q other at_q. subst (λ (r : Peer). WaitsUnder (link_of links r).waiting e) at_q old.0) e.peer refl,
  waits-with p s links es new.1 old.1,
)

-- a token with the next number is borne by nothing
pub unborne : (token : List ℕ) (n : ℕ) → token_number token ≡ n → (fs : List FirstSending) → AllByRecursion (λ (f : FirstSending). token_number f.message.token < n) fs
    → list_any (λ (f : FirstSending). bytes_eq f.message.token token) fs ≡ false
unborne token n e [] a = refl
unborne token n e (f ∷ fs) a = by (bytes_eq f.message.token token) refl (unborne token n e fs a.1)
  where
    by : (b : Bool) → bytes_eq f.message.token token ≡ b → list_any (λ (g : FirstSending). bytes_eq g.message.token token) fs ≡ false
        → (b || list_any (λ (g : FirstSending). bytes_eq g.message.token token) fs) ≡ false
    by true h ih = let same = ap token_number ((bytes_eq-Decides f.message.token token).0 h) in let less = a.0 in absurd (omega (arith, same, less, e))
    by false h ih = ih

-- Whether its first message asks to observe is the same in the state.
would-tell : (l : List Noted) (a : Ask) (q : CoapRequest) (S : State) → Reads l S → would_observe l a q ≡ wants a q S.watches
would-tell l a q S r =
    ap (λ (k : ℕ). may_observe a.rules q && ltb k most_watches)
    (sym (map-length held_of (without (is_for q) (watches l)))
    ∙ (ap length (map-filtered held_of (λ (w : Registration). not (is_renewed_by q w)) (watches l))
    ∙ ap (λ (rs : List Registration). length (without (is_renewed_by q) rs)) r.watches_are))

-- It asks about what is stored for it, which isn't fresh and has an ETag, unless it would observe.
pub record AsksAbout (l : List Noted) (t : ℕ) (a : Ask) (q : CoapRequest) (s : Stored) : Type 0 where
  pub get : is_get q ≡ true
  pub stored : Stored
  pub is : IsStored l q stored
  pub pieces : s ≡ pieces_of l stored
  pub stale : is_fresh t s ≡ false
  pub tagged : is_some s.response.etag ≡ true
  pub unobserved : would_observe l a q ≡ false

stale-is : (l : List Noted) (q : CoapRequest) (t : ℕ) (s : Stored) (ps : List Pair) → AllByRecursion (PairIn l) ps → is_get q ≡ true → if_tagged (stale_under (asked_key q) t ps) ≡ Some s
    → IsStored l q s × ((is_fresh t s ≡ false) × (is_some s.response.etag ≡ true))
stale-is l q t s ps a get e = by (find (is_stale_under (asked_key q) t) ps) refl e
  where
    tagged : (u : Stored) → if_tagged (Some u) ≡ Some s → (u ≡ s) × (is_some u.response.etag ≡ true)
    tagged u f = of (is_some u.response.etag) refl f
      where
        of : (b : Bool) → is_some u.response.etag ≡ b → cond b (Some u) None ≡ Some s → (u ≡ s) × (is_some u.response.etag ≡ true)
        of true k f = (some-is u s f, k)
        of false k f = absurd (none-some s f)

    by : (v : Option Pair) → find (is_stale_under (asked_key q) t) ps ≡ v → if_tagged (stored_in v) ≡ Some s → IsStored l q s × ((is_fresh t s ≡ false) × (is_some s.response.etag ≡ true))
    by None found f = absurd (none-some s f)
    by (Some p) found f =
        let it = find-some (is_stale_under (asked_key q) t) ps p found in
        let both = and_parts (same_key p.key (asked_key q)) (not (is_fresh t p.stored)) it.1 in
        let h = all-of (PairIn l) ps p a it.0 in
        let key : asked_key q ≡ asked_key h.request = sym (h.key ∙ (keys_decided p.key (asked_key q)).0 both.0) in
        let same = tagged p.stored f in
        subst (λ (k : Stored). IsStored l q k × ((is_fresh t k ≡ false) × (is_some k.response.etag ≡ true))) same.0
        (stored-alike l q h.request p.stored get h.get key h.stored, (not-true (is_fresh t p.stored) both.1, same.1))

pub asks-about : (l : List Noted) (t : ℕ) (a : Ask) (q : CoapRequest) (s : Stored) (S : State) → Reads l S → kept_for t a q S ≡ Some s → AsksAbout l t a q s
asks-about l t a q s S r e = by (is_get q) refl (wants a q S.watches) refl e
  where
    by : (g : Bool) → is_get q ≡ g → (w : Bool) → wants a q S.watches ≡ w → cond (g && not w) (option_map (as_pieces S.entries) (if_tagged (stale_under (asked_key q) t S.store))) None ≡ Some s → AsksAbout l t a q s
    by true get false none f = of (if_tagged (stale_under (asked_key q) t S.store)) refl f
      where
        of : (v : Option Stored) → if_tagged (stale_under (asked_key q) t S.store) ≡ v → option_map (as_pieces S.entries) v ≡ Some s → AsksAbout l t a q s
        of None is g = absurd (none-some s g)
        of (Some u) is g =
            let it = stale-is l q t u S.store r.store_is.pairs get is in
            let pieces : s ≡ pieces_of l u = sym (some-is (as_pieces S.entries u) s g) ∙ pieces-told l S r q u it.0 in
            record {
              get = get;
              stored = u;
              is = it.0;
              pieces = pieces;
              stale = ap (is_fresh t) pieces ∙ it.1.0;
              tagged = ap (λ (v : Stored). is_some v.response.etag) pieces ∙ it.1.1;
              unobserved = would-tell l a q S r ∙ none;
            }
    by true get true wants f = absurd (none-some s f)
    by false get w wants f = absurd (none-some s f)

-- So the note of its opening may stand.
record MayOpen (l : List Noted) (t : ℕ) (a : Ask) (q : CoapRequest) (note : Note) : Type 0 where
  pub opens : IsOpening q note
  pub asks : AskNote l t a.sense note
  pub misses : MissNote l t a note

may-open : (l : List Noted) (t : ℕ) (a : Ask) (q : CoapRequest) (S : State) → Reads l S → a.sense ≡ Requests q → MissesAlone l t q → joins l q ≡ None → has_room l t q ≡ true
    → (v : Option Stored) → kept_for t a q S ≡ v → MayOpen l t a q (opening_note q v)
may-open l t a q S r sense misses alone room None none = record {
  opens = refl;
  asks = subst (λ (z : Sense). AskNote l t z (Begins q)) (sym sense) (refl, alone, room);
  misses = subst (λ (z : Sense). UnservedNote l t z (Begins q)) (sym sense) misses;
}
may-open l t a q S r sense misses alone room (Some s) keeps =
    let it = asks-about l t a q s S r keeps in
    record {
      opens = (refl, it.get);
      asks = subst (λ (z : Sense). AskNote l t z (Renews q s)) (sym sense) (refl, alone, room, it.get, it.stored, it.is, it.pieces, it.stale, it.tagged);
      misses = (subst (λ (z : Sense). UnservedNote l t z (Renews q s)) (sym sense) misses, it.unobserved);
    }

-- what is kept by it, and how it asks first
kept-note : (q : CoapRequest) (v : Option Stored) → kept_by (opening_note q v) ≡ v
kept-note q None = refl
kept-note q (Some s) = refl

wants-note : (l : List Noted) (c t : ℕ) (a : Ask) (q : CoapRequest) (S : State) → Reads l S → (v : Option Stored) → kept_for t a q S ≡ v
    → wants_by l (Asks c a) (opening_note q v) ≡ wants a q S.watches
wants-note l c t a q S r None none = would-tell l a q S r
wants-note l c t a q S r (Some s) keeps = sym (sym (would-tell l a q S r) ∙ (asks-about l t a q s S r keeps).unobserved)

first-asks : (l : List Noted) (c t : ℕ) (a : Ask) (q : CoapRequest) (S : State) → Reads l S → first_manner l (Asks c a) (opening_note q (kept_for t a q S)) ≡ asks_so t a q S
first-asks l c t a q S r =
    ap (λ (v : Option Stored). manner_by (tag_of v []) (wants_by l (Asks c a) (opening_note q (kept_for t a q S)))) (kept-note q (kept_for t a q S))
    ∙ ap (manner_by (tag_of (kept_for t a q S) [])) (wants-note l c t a q S r (kept_for t a q S) refl)

asked-note : (o n t : ℕ) (q : CoapRequest) (v : Option Stored) (old : ℕ) → asked_last_by o n t (opening_note q v) old ≡ cond (eqb n o) t old
asked-note o n t q None old = refl
asked-note o n t q (Some s) old = refl

readers-note : (n c : ℕ) (a : Ask) (q : CoapRequest) (v : Option Stored) (rs : List Reader) → readers_by n (Asks c a) (opening_note q v) rs ≡ rs ++ reader_at n c n ∷ []
readers-note n c a q None rs = refl
readers-note n c a q (Some s) rs = refl

watched-note : (t : ℕ) (s : Sense) (q : CoapRequest) (v : Option Stored) (ws : List Watch) → s ≡ Requests q → asked_by t s (opening_note q v) ws ≡ without (is_for q) ws
watched-note t s q None ws e = ap (λ (z : Sense). asked_by t z (Begins q) ws) e
watched-note t s q (Some u) ws e = ap (λ (z : Sense). asked_by t z (Renews q u) ws) e

-- It begins with nothing, and goes back to itself.
nothing-note : (n : ℕ) (q : CoapRequest) (v : Option Stored) → H.begins_by n (opening_note q v) ≡ []
nothing-note n q None = refl
nothing-note n q (Some s) = refl

own-note : (n : ℕ) (q : CoapRequest) (v : Option Stored) → H.ask_by n (opening_note q v) ≡ n
own-note n q None = refl
own-note n q (Some s) = refl

silent-note : (l : List Noted) (q : CoapRequest) (v : Option Stored) → counting l (opening_note q v) ≡ None
silent-note l q None = refl
silent-note l q (Some s) = refl

quiet-note : (c : ℕ) (a : Ask) (q : CoapRequest) (v : Option Stored) → NotServing (Asks c a) (opening_note q v)
quiet-note c a q None = tt
quiet-note c a q (Some s) = tt

-- It reads no exchange that was opened before.
read-before : (l : List Noted) (t c : ℕ) (a : Ask) (q : CoapRequest) (v : Option Stored) (o : ℕ) (b : Begun) → H.begun l o ≡ Some b
    → asked_last (noted t (Asks c a) (opening_note q v) ∷ l) o ≡ asked_last l o
read-before l t c a q v o b opened = asked-note o (length l) t q v (asked_last l o) ∙ elim (eqb_tells (length l) o) [
  | inl e ↦ let same = e.1 in let below = begun-below l o b opened in absurd (omega (arith, same, below))
  | inr e ↦ rw (e.0) refl
]

awaits-same : (l : List Noted) (t c : ℕ) (a : Ask) (q : CoapRequest) (note : Note) (p : Peer) → Legal l → IsOpening q note → (token : List ℕ)
    → awaits (noted t (Asks c a) note ∷ l) p token ≡ awaits l p token
awaits-same l t c a q note p legal opens token = ap (list_any (λ (i : ℕ). went_under p token (first_at l i))) (awaited-same l t c a q note legal opens)

-- What is read again is read of one server.
renewed-elsewhere : (q : CoapRequest) (p : Peer) → same_peer q.peer p ≡ false → (r : Registration) → is_renewed_by q r ≡ true → same_peer r.key.place.peer p ≡ false
renewed-elsewhere q p other r e =
    let same : r.key ≡ asked_key q = (keys_decided r.key (asked_key q)).0 (and_parts (is_get q) _ e).1 in
    ap (λ (k : CacheKey). same_peer k.place.peer p) same ∙ other

pub begins-leads : BeginsLeads
begins-leads l t c a q token text word S b may who sense misses alone room short spelled size number =
    let r = b.reads in
    let later = later-than l t S b in
    let old_one = kept_for t a q S in
    let note = opening_note q old_one in
    let x = noted t (Asks c a) note in
    let n = x ∷ l in
    let e = exchange_for t a q token S in
    let w = waits token text word in
    let drop = is_renewed_by q in
    let here : length S.entries ≡ length l = ap length (sym r.entries_are) ∙ entries-length l in
    let open_it : MayOpen l t a q note = may-open l t a q S r sense misses alone room old_one refl in
    let opens_as : H.opens_by note ≡ Some q = opens-for q note open_it.opens in
    let quiet_it : counting l note ≡ None = silent-note l q old_one in
    let follows : Follows l t (Asks c a) note = (may, who.open_now, who.idle, open_it.asks, open_it.misses) in
    let none = unbegun l (length l) r.legal (not-yet l) in
    let fresh : bears_token l token ≡ false = unborne token S.issued number (firsts l) r.tokens_are in
    let link = link-before l t S b in
    let longer : Legal n = (r.legal, later, follows) in
    let left : map held_of (watches n) ≡ without drop (map held_of (watches l)) =
    ap (map held_of) (watched-note t a.sense q old_one (watches l) sense) ∙ map-filtered held_of (λ (w : Registration). not (drop w)) (watches l) in
    let forgets : Forgets l x q.peer (is_one_of (tokens_of drop S.watches)) =
    subst (λ (rs : List Registration). Forgets l x q.peer (is_one_of (tokens_of drop rs))) r.watches_are
    (forgets-these l x q.peer drop r.legal longer left (awaits-same l t c a q note q.peer r.legal open_it.opens)) in
    let s = queued t w (unwatched q S) in
    let kept_ones = all-both (OpenIn b.reads.start l) _ S.exchanges (open-ones l S r) r.waiting_are in
    let current-begun = current-still x l S r [] (none-ends x l S r (λ o. refl)) longer refl in
    let begun-new : H.begun n (length l) ≡ Some (record { since = t; request = q }) = begun-here l t c a q note open_it.opens in
    let begins : is_some (H.begun n (length l)) ≡ true = ap is_some begun-new in
    let unreplied = (replies-none l (length l) r.legal (not-yet l)).1 in
    let unheard : H.heard_for n (length l) ≡ [] =
    ap (λ (bs : List Reply). bs ++ H.replies n (length l)) (begins-at n (length l) x (at-new x l) ∙ nothing-note (length l) q old_one) ∙ unreplied in
    let kept-new : kept_in n (length l) ≡ old_one = ap (λ (rs : List Reply). kept_yet (H.kept n (length l)) rs) unreplied ∙ (kept-here l t c a note ∙ kept-note q old_one) in
    record {
      follows = follows;
      reads = record {
        start = r.start;
        few = r.few;
        entries_are = ap (λ (es : List Written). es ++ record { moment = t; deed = Asks c a } ∷ []) r.entries_are;
        legal = longer;
        sealed_is = r.sealed_is;
        moment_is = moment-now l t S b;
        opened_are = r.opened_are;
        opens_are = r.opens_are;
        issued_are = (let more = opened-issued x l r.legal begins (ap is_none none.1) in let before = r.issued_are in omega (arith, more, before));
        conns_are = rw (r.conns_are, here) refl;
        readers_are = readers-note (length l) c a q old_one (readers_of l) ∙ rw (r.readers_are, here) refl;
        keys = ap (filter (is_going n)) (ap (λ (v : Option CoapRequest). H.opened_by (length l) v (openings l)) opens_as)
            ∙ (filter-push (is_going n) (openings l) (length l) (ap is_none none.1)
            ∙ (ap (λ (os : List ℕ). os ++ length l ∷ []) r.keys
            ∙ (ap (λ (k : ℕ). map opening_of S.exchanges ++ k ∷ []) (sym here) ∙ sym (map_push opening_of S.exchanges e))));
        exchanges_are = all-push (ExchangeIn b.reads.start n) S.exchanges e (all-more (ExchangeIn b.reads.start l) (ExchangeIn b.reads.start n) (λ y h. exchange-stays x l y y.current y.newest (λ k. k) refl refl (read-before l t c a q old_one y.opening _ h.opening) h (current-begun y h) (λ get. newest-quiet x l (asked_key h.request) (got_in l y.opening) y.newest quiet_it (h.newest get))
            (λ s k. outdated-quiet x l (asked_key h.request) (first_in s.list) quiet_it ∙ h.newest_kept s k)) S.exchanges r.exchanges_are)
            (subst (λ (k : ℕ). ExchangeIn b.reads.start n (record e { opening = k })) (sym here) (record {
              request = q;
              opening = begun-new;
              peer = refl;
              method = refl;
              number = ap (λ (k : ℕ). r.start.issued + k) (opened-rank x l r.legal) ∙ (r.issued_are ∙ sym number);
              sending = unsent-new l r.legal;
              awaits = none.0;
              observes = wants-here l t c a note r.legal ∙ wants-note l c t a q S r old_one refl;
              asked = asked-note (length l) (length l) t q old_one (asked_last l (length l)) ∙ rw (eqb-itself (length l)) refl;
              named = λ u. u;
              sent = fresh;
              short = short;
              digests = refl;
              progress = first-progress n (length l) t q begun-new unheard;
              current = ap not (sym (none-outran n (asked_place q) (length l) (omega arith)));
              newest = λ get. subst (λ (rs : List Reply). IsNewest n (asked_key q) rs true)
                  (sym (got-new n (length l) t q begun-new unheard)) tt;
              newest_kept = λ s k.
                  let it = asks-about l t a q s S r (sym kept-new ∙ k) in
                  outdated-quiet x l (asked_key q) (first_in s.list) quiet_it
                  ∙ (ap (λ (v : Stored). outdated l (asked_key q) (first_in v.list)) it.pieces ∙ pieces-newest l q it.stored r.legal it.is);
              behind = behind-at n (length l) x (at-new x l) ∙ own-note (length l) q old_one ∙ sym here;
            }));
        pieces_are = (let old = pieces-quiet x l S.exchanges S.pieces (OpenIn b.reads.start l) (λ y h. (_, h.0.opening)) (λ y h. refl) (open-ones l S r) r.pieces_are in record {
          fetched = all-push (λ (y : Exchange). numbers (got_in n y.opening) ≡ numbers_of y.opening S.pieces) S.exchanges e old.fetched
              (subst (λ (k : ℕ). numbers (got_in n k) ≡ numbers_of k S.pieces) (sym here) (ap numbers (got-new n (length l) t q begun-new unheard) ∙ sym (none-of-new (length l) S.pieces r.pieces_are.below)));
          below = old.below;
        });
        stales_are = subst (λ (k : ℕ). StalesIn n (S.exchanges ++ e ∷ []) (S.stales ++ stale_for k old_one)) (sym here) (record {
          kept = all-push (λ (y : Exchange). kept_in n y.opening ≡ stale_in y.opening (S.stales ++ stale_for (length l) old_one)) S.exchanges e
              (all-more (λ (y : Exchange). OpenIn b.reads.start l y × (kept_in l y.opening ≡ stale_in y.opening S.stales)) _
              (λ y h. kept-stays x l y.opening _ h.0.0.opening refl ∙ (h.1 ∙ sym (stale-old y.opening (length l) old_one S.stales (begun-below l y.opening _ h.0.0.opening)))) S.exchanges
              (all-both (OpenIn b.reads.start l) _ S.exchanges (open-ones l S r) r.stales_are.kept))
              (subst (λ (k : ℕ). kept_in n k ≡ stale_in k (S.stales ++ stale_for (length l) old_one)) (sym here) (kept-new ∙ sym (stale-new (length l) old_one S.stales r.stales_are.below)));
          below = stales-more (length l) old_one S.stales r.stales_are.below;
        });
        watches_are = left ∙ ap (without drop) r.watches_are;
        store_is = store-still x l longer (λ o. refl) quiet_it (quiet-note c a q old_one) S.store r.store_is;
        tokens_are = all-more _ (λ (f : FirstSending). token_number f.message.token < S.issued + 1) (λ f h. omega (arith, h)) (firsts l) r.tokens_are;
        waiting_are = waits-with q.peer s S.links (S.exchanges ++ e ∷ [])
            (all-push (λ (y : Exchange). y.peer ≡ q.peer → WaitsUnder s.waiting y) S.exchanges e (all-more _ _ (λ y h at_q. old y h at_q) S.exchanges kept_ones) (λ at_q. new))
            (all-push (λ (y : Exchange). WaitsUnder (link_of S.links y.peer).waiting y) S.exchanges e r.waiting_are (λ v h same. absurd (above v h same)));
        links_are = all-links (λ (p : Peer) (v : LinkState). Agrees b.reads.start n p v) q.peer s S.links
            (queued-agrees _ l t q.peer (link_of S.links q.peer) c a q note token text word (is_one_of (tokens_of drop S.watches)) (link q.peer) refl open_it.opens
            (subst (λ (m : Manner). Spells (opening_message m q 0 token) text) (sym (first-asks l c t a q S r)) spelled) size fresh (number ∙ sym r.issued_are) forgets)
            (λ p other. ask-elsewhere _ l t p (link_of S.links p) c a q note (link p) other open_it.opens
            (unnoticed-these l x p drop r.legal longer left (renewed-elsewhere q p other)));
      };
    }
  where
    above : (v : Waiting) → Contains (link_of S.links q.peer).waiting v → token_number v.token ≡ token_number token → ⊥
    above v h same = let less = below-issued l S q.peer v b.reads h in omega (arith, less, same, number)

    old : (y : Exchange) → OpenIn b.reads.start l y × WaitsUnder (link_of S.links y.peer).waiting y → y.peer ≡ q.peer
        → WaitsUnder ((link_of S.links q.peer).waiting ++ waits token text word ∷ []) y
    old y h at_q v has same = elim (Contains-push_cases (link_of S.links q.peer).waiting (waits token text word) v has) [
      | inl k ↦ h.1 v (subst (λ (p : Peer). Contains (link_of S.links p).waiting v) (sym at_q) k) same
      | inr e ↦
          let less = rank-below l y.opening _ b.reads.legal h.0.0.opening h.0.1 in
          let mine = h.0.0.number in
          let issued = b.reads.issued_are in
          let is = ap (λ (u : Waiting). token_number u.token) e in
          absurd (omega (arith, less, mine, issued, is, same, number))
    ]

    new : WaitsUnder ((link_of S.links q.peer).waiting ++ waits token text word ∷ []) (exchange_for t a q token S)
    new v has same = elim (Contains-push_cases (link_of S.links q.peer).waiting (waits token text word) v has) [
      | inl k ↦ absurd (above v k same)
      | inr e ↦ ap (λ (u : Waiting). u.token) (sym e)
    ]
