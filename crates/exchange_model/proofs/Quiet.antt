-- Asks that open nothing, ACKs and RSTs, copies, and what is heard and is nothing new.
use Rattle.std.proofs.Common.{inl, inr, ◌<◌, ◌+◌, arith, eqb, is_some, List, map, Option, Some, Bool, cond, ◌≡◌, ℕ, true, false, ◌∷◌, length, None, refl, sym, ap, subst, ◌∙◌}
use Rattle.std.specs.Prelude.{find, ⊤}
use Rattle.std.specs.List.{AllByRecursion}
use Rattle.std.proofs.lemmas.Bool.Decides.{Decides-eqb, Decides-ltb}
use Rattle.std.proofs.lemmas.Bool.{false≢true, and_parts}
use Rattle.uri_map.specs.declared.peer.Peer.{Peer}
use Rattle.uri_map.specs.Peers.{same_peer}
use Rattle.uri_map.proofs.CallerLemmas.{same_peer-same}
use Rattle.message_layer.specs.Values.{LinkState}
use Rattle.message_layer.specs.Sending.{with_copy}
use Rattle.cache_key.specs.Keys.{same_key}
use Rattle.cache_key.proofs.CallerLemmas.{keys_decided}
use Rattle.resp_cache.specs.Stored.{is_never_fresh, lifetime, Stored, is_fresh}
use Rattle.resp_cache.specs.Stores.{is_of, is_fresh_under, moved, served, stored_in}
use Rattle.resp_cache.specs.declared.pair.Pair.{Pair}
use Rattle.ask_model.specs.Requests.{CoapRequest, Sense, Requests, Refuses}
use Rattle.ask_model.specs.Views.{Ask}
use Rattle.ask_model.specs.Sharing.{asked_key, is_get}
use Rattle.journal_book.specs.Entries.{Asks, Sends, Hears}
use Rattle.history_laws.specs.Storing.{MissesAlone, IsStored}
use Rattle.history_laws.specs.Readings.{noted, Noted, Note, Begins, First, Says, Bygone, Recalls, Serves, Plain, Joins, Copies, Confirms, Repeats, Garbled, Renews}
use Rattle.history_laws.specs.Observing.{Watch, asked_by, asked_last_by, watches}
use Rattle.history_laws.specs.Transmissions.{FirstSending}
use Rattle.history_laws.specs.Justified.{AskNote, Follows}
use Rattle.history_laws.proofs.CallerLemmas.{any-find, any-of, find-any, all-of, find-some, none-some, some-is, entries-length}
use Rattle.history_links.specs.Agrees.{Agrees}
use Rattle.history_links.specs.Steps.{copy}
use Rattle.history_links.proofs.CallerLemmas.{copy-elsewhere, copy-follows, garbled-agrees, repeat-agrees, silent-agrees, still, still-copy}
use Rattle.exchange_model.specs.Laws.{Before, AsksLeads, JoinsLeads, RecallsLeads, CopyLeads, ConfirmsLeads, RepeatsLeads, GarbledLeads}
use Rattle.exchange_model.specs.State.{State, link_of, with_link}
use Rattle.exchange_model.specs.Calls.{served_in}
use Rattle.exchange_model.specs.declared.kept.Exchange.{Exchange}
use Rattle.exchange_model.specs.Watching.{touched}
use Rattle.exchange_model.specs.Reads.{held_of, PairIn, Reads}
use Rattle.exchange_model.specs.Steps.{joins, given_out, read_last, recalls, sends_copy}
use Rattle.exchange_model.proofs.Watches.{touched-tells}
use Rattle.exchange_model.proofs.Storing.{stored-by-now, stored-get}
use Rattle.exchange_model.proofs.StoredAlike.{stored-alike}
use Rattle.exchange_model.proofs.StoredOne.{stored-one}
use Rattle.exchange_model.proofs.Stores.{store-served, store-still}
use Rattle.exchange_model.proofs.Tables.{still-reads, all-links, given-agrees, unread}
use Rattle.exchange_model.proofs.Silent.{later-than, link-before, silent-reads}

-- Any ask but one that opens an exchange is noted for what it reads.
abbrev IsNoted : Note → Type 0
IsNoted (Begins q) = ⊥
IsNoted (Renews q s) = ⊥
IsNoted note = ⊤

asked-by : (t : ℕ) (s : Sense) (note : Note) (ws : List Watch) → IsNoted note → map held_of (asked_by t s note ws) ≡ touched t s (map held_of ws)
asked-by t (Refuses cause status) note ws is = refl
asked-by t (Requests q) Plain ws is = touched-tells q t ws
asked-by t (Requests q) (Joins o) ws is = touched-tells q t ws
asked-by t (Requests q) (Serves js) ws is = touched-tells q t ws
asked-by t (Requests q) (First o m) ws is = touched-tells q t ws
asked-by t (Requests q) (Copies i) ws is = touched-tells q t ws
asked-by t (Requests q) Confirms ws is = touched-tells q t ws
asked-by t (Requests q) (Says m to notice) ws is = touched-tells q t ws
asked-by t (Requests q) (Repeats m j) ws is = touched-tells q t ws
asked-by t (Requests q) Garbled ws is = touched-tells q t ws
asked-by t (Requests q) (Bygone m) ws is = touched-tells q t ws
asked-by t (Requests q) (Recalls m answer) ws is = touched-tells q t ws
asked-by t (Requests q) (Begins r) ws is = absurd is
asked-by t (Requests q) (Renews r s) ws is = absurd is

asked-tells : (l : List Noted) (t c : ℕ) (a : Ask) (note : Note) (S : State) → Reads l S → IsNoted note
    → map held_of (watches (noted t (Asks c a) note ∷ l)) ≡ touched t a.sense S.watches
asked-tells l t c a note S r is = asked-by t a.sense note (watches l) is ∙ ap (touched t a.sense) r.watches_are

-- An ask that joins an exchange is the last that reads it.
read-last : (t o : ℕ) (e : Exchange) {old : ℕ} → old ≡ e.asked → asked_last_by e.opening o t (Joins o) old ≡ read_last t o e
read-last t o e same = ap (cond (eqb o e.opening) t) same ∙ ap (λ (b : Bool). cond b t e.asked) (turned o e.opening)
  where
    turned : (a b : ℕ) → eqb a b ≡ eqb b a
    turned a b = by (eqb a b) refl (eqb b a) refl
      where
        by : (c : Bool) → eqb a b ≡ c → (d : Bool) → eqb b a ≡ d → c ≡ d
        by true e true f = refl
        by false e false f = refl
        by true e false f = sym ((Decides-eqb b a).1 (sym ((Decides-eqb a b).0 e))) ∙ f
        by false e true f = sym e ∙ (Decides-eqb a b).1 (sym ((Decides-eqb b a).0 f))

pub asks-leads : AsksLeads
asks-leads l t c a S b may who note misses =
    let follows : Follows l t (Asks c a) Plain = (may, who.open_now, who.idle, note, misses) in
    record {
      follows = follows;
      reads = silent-reads l t (Asks c a) Plain S (touched t a.sense S.watches) b (asked-tells l t c a Plain S b.reads tt) (λ o. refl) refl tt tt tt (λ rs. refl) follows;
    }

pub confirms-leads : ConfirmsLeads
confirms-leads l t p bytes S b unsealed owes =
    let follows : Follows l t (Sends p bytes None) Confirms = (b.reads.sealed_is ∙ unsealed, (refl, owes)) in
    record { follows = follows; reads = silent-reads l t (Sends p bytes None) Confirms S S.watches b b.reads.watches_are (λ o. refl) refl tt tt tt (λ rs. refl) follows }

pub repeats-leads : RepeatsLeads
repeats-leads l t p d m j S h spelled again =
    let b = h.before in
    let link = link-before l t S b p in
    let follows : Follows l t (Hears p d) (Repeats m j) = (h.come, h.short, h.known, (spelled, again)) in
    record {
      leads = record { follows = follows; reads = silent-reads l t (Hears p d) (Repeats m j) S S.watches b b.reads.watches_are (λ o. refl) refl tt tt tt (λ rs. refl) follows };
      owes = (repeat-agrees _ l t p (link_of S.links p) d m j link again).owes;
    }

pub garbled-leads : GarbledLeads
garbled-leads l t p d S h small none =
    let b = h.before in
    let link = link-before l t S b p in
    let follows : Follows l t (Hears p d) Garbled = (h.come, h.short, h.known, (small, none)) in
    record {
      leads = record { follows = follows; reads = silent-reads l t (Hears p d) Garbled S S.watches b b.reads.watches_are (λ o. refl) refl tt tt tt (λ rs. refl) follows };
      owes = (garbled-agrees _ l t p (link_of S.links p) d link).owes;
    }

other-peer : (f : FirstSending) (p q : Peer) → same_peer f.peer p ≡ true → same_peer p q ≡ false → same_peer f.peer q ≡ false
other-peer f p q is other = subst (λ (r : Peer). same_peer r q ≡ false) (sym (same_peer-same f.peer p is)) other

pub copy-leads : CopyLeads
copy-leads l t p o S b q is few due =
    let later = later-than l t S b in
    let link = link-before l t S b in
    let made = copy-follows _ l t p (link_of S.links p) o (link p) q is few due in
    let i = made.0 in
    let s = given_out (with_copy t (link_of S.links p) o) in (
      i,
      record {
        follows = made.4.follows;
        reads = subst (λ (es : List Exchange). Reads (copy t p o i ∷ l) (record (sends_copy t p o S) { exchanges = es })) (unread S.exchanges) (still-reads l t (Sends p o.datagram None) (Copies i) S (with_link p s S.links) S.store S.watches (λ (e : Exchange). e.asked) b.reads (store-still (copy t p o i) l (b.reads.legal, later, made.4.follows) (still-copy l t p o.datagram i later).ends_are refl tt S.store b.reads.store_is) b.reads.watches_are (λ e a. a.asked) refl b.later tt made.4.follows S.readers b.reads.readers_are (still-copy l t p o.datagram i later)
            (all-links (λ (r : Peer) (v : LinkState). v.waiting ≡ (link_of S.links r).waiting) p s S.links refl (λ r other. refl))
            (all-links (λ (r : Peer) (v : LinkState). Agrees b.reads.start (copy t p o i ∷ l) r v) p s S.links (given-agrees (copy t p o i ∷ l) p (with_copy t (link_of S.links p) o) made.4.agrees)
            (λ r other. copy-elsewhere _ l t r p (link_of S.links r) o.datagram i made.1 (link r) made.2 (other-peer made.1 p r made.3 other))));
      },
    )

-- A GET is served what is stored for it.
served-is : (l : List Noted) (q : CoapRequest) (t : ℕ) (s : Stored) (ps : List Pair) → AllByRecursion (PairIn l) ps → is_get q ≡ true → served (asked_key q) t ps ≡ Some s
    → IsStored l q s × (is_fresh t s ≡ true)
served-is l q t s ps a get e = by (find (is_fresh_under (asked_key q) t) ps) refl e
  where
    by : (v : Option Pair) → find (is_fresh_under (asked_key q) t) ps ≡ v → stored_in v ≡ Some s → IsStored l q s × (is_fresh t s ≡ true)
    by None is e = absurd (none-some s e)
    by (Some p) is e =
        let it = find-some (is_fresh_under (asked_key q) t) ps p is in
        let both = and_parts (same_key p.key (asked_key q)) (is_fresh t p.stored) it.1 in
        let h = all-of (PairIn l) ps p a it.0 in
        let key : asked_key q ≡ asked_key h.request = sym (h.key ∙ (keys_decided p.key (asked_key q)).0 both.0) in
        let same : p.stored ≡ s = some-is p.stored s e in
        subst (λ (k : Stored). IsStored l q k × (is_fresh t k ≡ true)) same (stored-alike l q h.request p.stored get h.get key h.stored, both.1)

pub served-stored : (l : List Noted) (t : ℕ) (q : CoapRequest) (s : Stored) (S : State) → Reads l S → served_in q t S ≡ Some s → IsStored l q s × (is_fresh t s ≡ true)
served-stored l t q s S r e = by (is_get q) refl e
  where
    by : (b : Bool) → is_get q ≡ b → cond b (served (asked_key q) t S.store) None ≡ Some s → IsStored l q s × (is_fresh t s ≡ true)
    by true get e = served-is l q t s S.store r.store_is.pairs get e
    by false get e = absurd (none-some s e)

-- What is fresh and stored, and isn't served, was crowded out.
pub misses-tell : (l : List Noted) (t : ℕ) (q : CoapRequest) (S : State) → Before l t S → served_in q t S ≡ None → MissesAlone l t q
misses-tell l t q S b none s is fresh = elim (b.reads.store_is.kept q s is lasts) [
  | inl has ↦ absurd (found (find-any (is_of (asked_key q)) S.store has))
  | inr out ↦ out
]
  where
    get : is_get q ≡ true
    get = stored-get l q s is

    -- It was heard before now.
    lasts : is_never_fresh s ≡ false
    lasts = never (is_never_fresh s) refl
      where
        never : (c : Bool) → is_never_fresh s ≡ c → c ≡ false
        never false e = refl
        never true e =
            let before = stored-by-now l q s b.reads.legal is in
            let now = later-than l t S b in
            let zero_time : lifetime s.response.max_age ≡ 0 = (Decides-eqb (lifetime s.response.max_age) 0).0 e in
            let less : t < s.heard + lifetime s.response.max_age = (Decides-ltb t (s.heard + lifetime s.response.max_age)).0 fresh in
            absurd (omega (arith, before, now, zero_time, less))

    unserved : served (asked_key q) t S.store ≡ None
    unserved = sym (ap (λ (c : Bool). cond c (served (asked_key q) t S.store) None) get) ∙ none

    found : (p : Pair) × (find (is_of (asked_key q)) S.store ≡ Some p) → ⊥
    found (p, at_p) =
        let it = find-some (is_of (asked_key q)) S.store p at_p in
        let h = all-of (PairIn l) S.store p b.reads.store_is.pairs it.0 in
        let key : asked_key q ≡ asked_key h.request = sym (h.key ∙ (keys_decided p.key (asked_key q)).0 it.1) in
        let same : p.stored ≡ s = stored-one l q p.stored s b.reads.legal (stored-alike l q h.request p.stored get h.get key h.stored) is in
        let fresh_p : is_fresh_under (asked_key q) t p ≡ true = rw (it.1, same) fresh in
        let some = any-find (is_fresh_under (asked_key q) t) S.store in
        none-found (find (is_fresh_under (asked_key q) t) S.store) (sym some ∙ any-of (is_fresh_under (asked_key q) t) S.store p it.0 fresh_p) unserved
      where
        none-found : (v : Option Pair) → is_some v ≡ true → stored_in v ≡ None → ⊥
        none-found None e f = false≢true e
        none-found (Some z) e f = none-some _ (sym f)

served-by : (q : CoapRequest) (t : ℕ) (s : Stored) (S : State) → served_in q t S ≡ Some s → served (asked_key q) t S.store ≡ Some s
served-by q t s S e = by (is_get q) e
  where
    by : (b : Bool) → cond b (served (asked_key q) t S.store) None ≡ Some s → served (asked_key q) t S.store ≡ Some s
    by true e = e
    by false e = absurd (none-some s e)

pub recalls-leads : RecallsLeads
recalls-leads l t c a q s S b may who sense served =
    let it = served-stored l t q s S b.reads served in
    let note : AskNote l t a.sense (Serves s.list) = rw (sense) (s, it.0, it.1, refl) in
    let follows : Follows l t (Asks c a) (Serves s.list) = (may, who.open_now, who.idle, note, rw (sense) tt) in
    record {
      follows = follows;
      reads = subst (λ (es : List Exchange). Reads (noted t (Asks c a) (Serves s.list) ∷ l) (record (recalls t c a (asked_key q) S) { exchanges = es })) (unread S.exchanges) (still-reads l t (Asks c a) (Serves s.list) S S.links (moved (asked_key q) t S.store) (touched t a.sense S.watches) (λ (e : Exchange). e.asked) b.reads (store-served (noted t (Asks c a) (Serves s.list)) l (b.reads.legal, later-than l t S b, follows) (still l t (Asks c a) (Serves s.list) (later-than l t S b) tt).ends_are refl t c a q s.list refl sense s S.store b.reads.store_is (served-by q t s S served)) (asked-tells l t c a (Serves s.list) S b.reads tt) (λ e a. a.asked) refl b.later tt follows S.readers b.reads.readers_are
          (still l t (Asks c a) (Serves s.list) (later-than l t S b) tt) (λ p. refl)
          (λ p. silent-agrees _ l t p (link_of S.links p) (Asks c a) (Serves s.list) (link-before l t S b p) tt));
    }

-- An ask that reads along changes who waits alone.
pub joins-leads : JoinsLeads
joins-leads l t c a q o S b may who sense misses joined =
    let note : AskNote l t a.sense (Joins o) = rw (sense) joined in
    let follows : Follows l t (Asks c a) (Joins o) = (may, who.open_now, who.idle, note, rw (sense) misses) in
    let here : length S.entries ≡ length l = ap length (sym b.reads.entries_are) ∙ entries-length l in
    record {
      follows = follows;
      reads = still-reads l t (Asks c a) (Joins o) S S.links S.store (touched t a.sense S.watches) (read_last t o) b.reads (store-still (noted t (Asks c a) (Joins o)) l (b.reads.legal, later-than l t S b, follows) (still l t (Asks c a) (Joins o) (later-than l t S b) tt).ends_are refl tt S.store b.reads.store_is) (asked-tells l t c a (Joins o) S b.reads tt) (λ e a. read-last t o e a.asked) refl b.later tt follows (joins t c a o S).readers (rw (b.reads.readers_are, here) refl)
          (still l t (Asks c a) (Joins o) (later-than l t S b) tt) (λ p. refl)
          (λ p. silent-agrees _ l t p (link_of S.links p) (Asks c a) (Joins o) (link-before l t S b p) tt);
    }
