-- What each call of a core adds, and that each answer is to the ask that its connection waits for.
use Rattle.std.proofs.Common.{◌≡◌, ◌≢◌, ◌⊎◌, inl, inr, ℕ, ◌+◌, Bool, true, false, cond, List, [], ◌∷◌, ◌++◌, length, Option, Some, None, Result, Ok, Err, refl, sym, ap, ◌∙◌, subst, arith, length-append, eq-eqb}
use Rattle.std.specs.Prelude.{◌&&◌, fold, filter, map, is_some, nat_le, ⊤, ◌==◌}
use Rattle.std.specs.List.{AllByRecursion}
use Rattle.std.proofs.lemmas.List.{append-nil, append_assoc}
use Rattle.std.proofs.lemmas.Bool.{both_ways}
use Rattle.coap_codec.specs.Spelling.{Content}
use Rattle.coap_codec.specs.Reading.{message_at}
use Rattle.coap_codec.specs.declared.fault.CodecFault.{CodecFault}
use Rattle.uri_map.specs.declared.peer.Peer.{Peer}
use Rattle.message_layer.specs.Hearing.{replies, reset_for, verdict_of}
use Rattle.message_layer.specs.declared.state.Outstanding.{Outstanding}
use Rattle.message_layer.specs.declared.state.Waiting.{Waiting}
use Rattle.message_layer.specs.declared.verdict.News.{News}
use Rattle.message_layer.specs.declared.verdict.Verdict.{Verdict}
use Rattle.message_layer.specs.declared.verdict.News.TheVariants as N
use Rattle.resp_cache.specs.Stored.{Stored}
use Rattle.ask_model.specs.Sharing.{asked_key}
use Rattle.ask_model.specs.declared.cause.Cause.{Cause}
use Rattle.ask_model.specs.Requests.{CoapRequest, Sense, Requests, Refuses}
use Rattle.ask_model.specs.Views.{Ask}
use Rattle.ask_model.specs.declared.cause.Cause.TheVariants as C
use Rattle.journal_book.specs.Entries.{Kept, Fault, Deed, Asks, Sends, Hears, Passes, Answers, Seals, Written}
use Rattle.history_laws.proofs.CallerLemmas.{all-more}
use Rattle.exchange_model.specs.Steps.{recalls, opens, asks, seals, begins, hears_nothing, sends_first, sends_copy, joins}
use Rattle.exchange_model.specs.Matters.{Matter, matter_of}
use Rattle.exchange_model.specs.Hearing.{Numbers, hears, is_past, timed_out, passes}
use Rattle.exchange_model.specs.Calls.{asked_for, served_in, serves, next_by, next, refused, has_place, asked_by, asked, given_back, Telling, tells, told_for, told_late, joined, asked_with, takes_new, takes_by, repeats, resets, reads_so, heard, is_due, moves_by, moves, move_all, peer_of, something_due, ticked}
use Rattle.exchange_model.specs.declared.kept.Conn.{Conn}
use Rattle.exchange_model.specs.declared.kept.Exchange.{Exchange}
use Rattle.exchange_model.specs.declared.kept.Reader.{Reader}
use Rattle.exchange_model.specs.State.{State, link_of, pend, conns_after}
use Rattle.exchange_model.specs.Resting.{HasConn}
use Rattle.exchange_model.specs.Growing.{conns_with, at_moment, by_client}
use Rattle.exchange_model.specs.Room.{fits, KeptInRoom}
use Rattle.exchange_model.specs.Entering.{answer_of}
use Rattle.exchange_model.specs.Sealing.{in_room, opens_in_room, asks_in_room, hears_in_room, late, ticks_in_room}
use Rattle.exchange_model.proofs.CallerLemmas.{Apart, AreWaiting, conns-both, for-served, given-conns, kept-served, late-served, moved-conns, next-conns, readers_in, Served, still-waits}

-- An answer is to the ask that its connection waits for.
abbrev pub IsAwaited : List Conn → Deed → Type 0
IsAwaited cs (Answers c k g) = HasConn cs c (Some k)
IsAwaited cs _ = ⊤

abbrev pub AreAwaited : List Conn → ℕ → List Written → Type 0
AreAwaited cs n [] = ⊤
AreAwaited cs n (w ∷ ws) = IsAwaited cs w.deed × AreAwaited (conns_after cs n w.deed) (n + 1) ws

-- neither opens, asks nor shuts
abbrev pub IsInner : Deed → Type 0
IsInner d = by_client d ≡ false

abbrev pub AreInner : List Written → Type 0
AreInner ws = AllByRecursion (λ (w : Written). IsInner w.deed) ws

awaited-both : (cs : List Conn) (n : ℕ) (xs ys : List Written) → AreAwaited cs n xs
    → AreAwaited (conns_with cs n xs) (n + length xs) ys → AreAwaited cs n (xs ++ ys)
awaited-both cs n [] ys a b =
    let e : n + 0 ≡ n = omega arith in subst (λ (k : ℕ). AreAwaited cs k ys) e b
awaited-both cs n (x ∷ xs) ys a b =
    let e : n + length (x ∷ xs) ≡ n + 1 + length xs = omega arith in (
      a.0,
      awaited-both (conns_after cs n x.deed) (n + 1) xs ys a.1
          (subst (λ (k : ℕ). AreAwaited (conns_with (conns_after cs n x.deed) (n + 1) xs) k ys) e b),
    )

inner-both : (xs ys : List Written) → AreInner xs → AreInner ys → AreInner (xs ++ ys)
inner-both [] ys a b = b
inner-both (x ∷ xs) ys a b = (a.0, inner-both xs ys a.1 b)

-- A step adds such entries, and the connections follow from them.
pub record Moves (S S1 : State) : Type 0 where
  pub more : List Written
  pub entries : S1.entries ≡ S.entries ++ more
  pub inner : AreInner more
  pub conns : S1.conns ≡ conns_with S.conns (length S.entries) more
  pub awaited : AreAwaited S.conns (length S.entries) more
  pub opened : S1.opened ≡ S.opened

pub none : (S : State) → Moves S S
none S = record {
  more = [];
  entries = sym (append-nil S.entries);
  inner = tt;
  conns = refl;
  awaited = tt;
  opened = refl;
}

one : (t : ℕ) (d : Deed) (S S1 : State) → S1.entries ≡ S.entries ++ at_moment t d ∷ []
    → S1.conns ≡ conns_after S.conns (length S.entries) d → S1.opened ≡ S.opened → IsInner d → IsAwaited S.conns d
    → Moves S S1
one t d S S1 entries conns opened i a = record {
  more = at_moment t d ∷ [];
  entries = entries;
  inner = (i, tt);
  conns = conns;
  awaited = (a, tt);
  opened = opened;
}

both : (S S1 S2 : State) → Moves S S1 → Moves S1 S2 → Moves S S2
both S S1 S2 a b =
    let n : ℕ = length S.entries in
    let long : length S1.entries ≡ n + length a.more =
    ap length a.entries ∙ length-append S.entries a.more in
    record {
      more = a.more ++ b.more;
      entries =
          b.entries ∙ ap (λ (es : List Written). es ++ b.more) a.entries
          ∙ append_assoc S.entries a.more b.more;
      inner = inner-both a.more b.more a.inner b.inner;
      conns =
          b.conns ∙ ap (λ (cs : List Conn). conns_with cs (length S1.entries) b.more) a.conns
          ∙ ap (λ (k : ℕ). conns_with (conns_with S.conns n a.more) k b.more) long
          ∙ sym (conns-both S.conns n a.more b.more);
      awaited =
          awaited-both S.conns n a.more b.more a.awaited
          (subst (λ (k : ℕ). AreAwaited (conns_with S.conns n a.more) k b.more) long
          (subst (λ (cs : List Conn). AreAwaited cs (length S1.entries) b.more) a.conns b.awaited));
      opened = b.opened ∙ a.opened;
    }

either : (b : Bool) (S S1 S2 : State) → Moves S S1 → Moves S S2 → Moves S (cond b S1 S2)
either true S S1 S2 x y = x
either false S S1 S2 x y = y

all-fold : {X : Type 0} (f : State → X → State) → ((S : State) (x : X) → Moves S (f S x))
    → (xs : List X) (S : State) → Moves S (fold f S xs)
all-fold f step [] S = none S
all-fold f step (x ∷ xs) S = both S (f S x) (fold f (f S x) xs) (step S x) (all-fold f step xs (f S x))

seals-move : (t : ℕ) (S : State) → Moves S (seals t S)
seals-move t S = one t Seals S (seals t S) refl refl refl refl tt

next-moves : (t : ℕ) (p : Peer) (S : State) → Moves S (next t p S)
next-moves t p S = by (link_of S.links p).outstanding (link_of S.links p).waiting
  where
    by : (v : Option Outstanding) (ws : List Waiting) → Moves S (next_by t p v ws S)
    by None [] = none S
    by (Some o) ws = none S
    by None (w ∷ ws) = one t (Sends p _ _) S (sends_first t p w ws S) refl refl refl refl tt

given-moves : (t : ℕ) (p : Peer) (bs : List (List ℕ)) (S : State) → Moves S (given_back t p bs S)
given-moves t p [] S = none S
given-moves t p (b ∷ bs) S =
    both S _ (given_back t p (b ∷ bs) S) (one t (Sends p b None) S _ refl refl refl refl tt)
    (given-moves t p bs _)

turn-moves : (t : ℕ) (S : State) (p : Peer) → Moves S (moves t S p)
turn-moves t S p = by (link_of S.links p).outstanding
  where
    by : (v : Option Outstanding) → Moves S (moves_by t p v S)
    by None = next-moves t p S
    by (Some o) = either (is_due t (Some o)) S (sends_copy t p o S) S
        (one t (Sends p _ None) S (sends_copy t p o S) refl refl refl refl tt) (none S)

-- Who is told waits.
told-move : (t : ℕ) (xs : List Telling) (S : State) → AreWaiting (readers_in xs) S.conns → Apart (readers_in xs) → Moves S (fold (tells t) S xs)
told-move t [] S waits apart = none S
told-move t (x ∷ xs) S waits apart =
    let left = still-waits x.reader.conn (readers_in xs) S.conns (all-more _ (λ (r : Reader). x.reader.conn ≢ r.conn) (λ r k. k.1) (readers_in xs) apart.0) waits.1 in
    both S (tells t S x) (fold (tells t) S (x ∷ xs))
    (one t (answer_of x) S (tells t S x) refl refl refl refl waits.0)
    (told-move t xs (tells t S x) left apart.1)

late-told : (t : ℕ) (es : List Exchange) (rs : List Reader) (S : State) → AreWaiting rs S.conns → Apart rs → Moves S (fold (tells t) S (told_late es rs))
late-told t es rs S waits apart =
    let served = late-served es rs S.conns waits apart in
    told-move t (told_late es rs) S served.0 served.1

-- a datagram

heard-moves : (t : ℕ) (p : Peer) (d : List ℕ) (n : Numbers) (S : State) → Served S → Moves S (heard t p d n S)
heard-moves t p d n S served =
    either (is_some (link_of S.links p).last_mid && nat_le (length d) 2048) S
    (reads_so t p d n (message_at d) S) S (read (message_at d)) (none S)
  where
    nothing : (bs : List (List ℕ)) → Moves S (given_back t p bs (hears_nothing t p d S))
    nothing bs =
        both S (hears_nothing t p d S) (given_back t p bs (hears_nothing t p d S))
        (one t (Hears p d) S (hears_nothing t p d S) refl refl refl refl tt)
        (given-moves t p bs (hears_nothing t p d S))

    new : (m : Content) (v : Verdict) → Moves S (takes_new t p d m v n S)
    new m v =
        let S1 = hears t p d m n S in
        let S2 = given_back t p (replies m.mid v.reply) S1 in
        let S3 = next t p S2 in
        both S S3 (takes_new t p d m v n S)
        (both S S2 S3
        (both S S1 S2 (one t (Hears p d) S S1 refl refl refl refl tt)
        (given-moves t p (replies m.mid v.reply) S1))
        (next-moves t p S2))
        (told-move t (told_for (length S.entries) x S.readers) S3
        (rw (next-conns t p S2, given-conns t p (replies m.mid v.reply) S1) told.0) told.1)
      where
        x : Matter
        x = matter_of t p m v S

        told : AreWaiting (readers_in (told_for (length S.entries) x S.readers)) S.conns × Apart (readers_in (told_for (length S.entries) x S.readers))
        told = for-served (length S.entries) x S.readers S.conns served.waits served.apart

    taken : (m : Content) (v : Verdict) (news : News) → Moves S (takes_by t p d m v n news S)
    taken m v N.Lost = none S
    taken m v N.Quiet = new m v
    taken m v N.Response = new m v
    taken m v (N.Reset token) = new m v

    message : (m : Content) (v : Verdict)
        → Moves S
        (cond (repeats t (link_of S.links p) m)
        (given_back t p (replies m.mid v.reply) (hears_nothing t p d S))
        (takes_by t p d m v n v.news S))
    message m v = either (repeats t (link_of S.links p) m) S _ _
        (nothing (replies m.mid v.reply)) (taken m v v.news)

    read : (r : Result Content CodecFault) → Moves S (reads_so t p d n r S)
    read (Ok m) = message m (verdict_of t (link_of S.links p) m)
    read (Err e) = nothing (resets (reset_for d))

in-room : (t : ℕ) (S S1 : State) → Moves S S1 → Moves S (in_room t S1 S)
in-room t S S1 x = either (fits S1) S S1 (seals t S) x (seals-move t S)

pub hears-move : (t : ℕ) (p : Peer) (d : List ℕ) (n : Numbers) (S : State) → KeptInRoom S → Moves S (hears_in_room t p d n S)
hears-move t p d n S kept =
    either S.sealed S S (in_room t (heard t p d n S) S) (none S)
    (in-room t S (heard t p d n S) (heard-moves t p d n S (kept-served kept.kept.reading S kept.kept.rests.reads)))

-- a tick

late-moves : (t : ℕ) (S : State) → Served S → Moves S (late t S)
late-moves t S served = late-told t (filter (is_past t) S.exchanges) S.readers S served.waits served.apart

ticked-moves : (t : ℕ) (S : State) → Served S → Moves S (ticked t S)
ticked-moves t S served =
    let S1 = passes t S in
    let S2 = move_all t S1 in
    either (something_due t S) S (fold (tells t) S2 (told_late (timed_out t S) S.readers)) S
    (both S S2 (fold (tells t) S2 (told_late (timed_out t S) S.readers))
    (both S S1 S2 (one t Passes S S1 refl refl refl refl tt)
    (all-fold (moves t) (turn-moves t) (map peer_of S1.links) S1))
    (late-told t (timed_out t S) S.readers S2 (rw (moved-conns t (map peer_of S1.links) S1) served.waits) served.apart)) (none S)

pub ticks-move : (t : ℕ) (S : State) → KeptInRoom S → Moves S (ticks_in_room t S)
ticks-move t S kept =
    let served = kept-served kept.kept.reading S kept.kept.rests.reads in
    either S.sealed S (late t S) _ (late-moves t S served)
    (either (fits (ticked t S)) S (ticked t S) (late t (seals t S)) (ticked-moves t S served)
    (both S (seals t S) (late t (seals t S)) (seals-move t S)
    (late-moves t (seals t S) (record { waits = served.waits; apart = served.apart }))))

-- a connection that isn't opened

pub opens-as : (t : ℕ) (S : State) → (opens_in_room t S).sealed ≡ false → opens_in_room t S ≡ opens t S
opens-as t S e = by S.sealed refl e
  where
    fit : (b : Bool) → (cond b (opens t S) (seals t S)).sealed ≡ false → cond b (opens t S) (seals t S) ≡ opens t S
    fit true e = refl
    fit false e = absurd (both_ways true e refl)

    by : (b : Bool) → S.sealed ≡ b → (cond b S (in_room t (opens t S) S)).sealed ≡ false
        → cond b S (in_room t (opens t S) S) ≡ opens t S
    by true s e = absurd (both_ways S.sealed e s)
    by false s e = fit (fits (opens t S)) e

pub turns-away : (t : ℕ) (S : State) → (opens_in_room t S).sealed ≡ true → Moves S (opens_in_room t S)
turns-away t S e = by S.sealed refl e
  where
    fit : S.sealed ≡ false → (b : Bool) → (cond b (opens t S) (seals t S)).sealed ≡ true
        → Moves S (cond b (opens t S) (seals t S))
    fit s true e = absurd (both_ways S.sealed s e)
    fit s false e = seals-move t S

    by : (b : Bool) → S.sealed ≡ b → (cond b S (in_room t (opens t S) S)).sealed ≡ true
        → Moves S (cond b S (in_room t (opens t S) S))
    by true s e = none S
    by false s e = fit s (fits (opens t S)) e

-- an ask

pub asks-for : (c : ℕ) (p q : Option ℕ) (cs : List Conn) → HasConn cs c p → HasConn (map (pend c q) cs) c q
asks-for c p q [] h = absurd h
asks-for c p q (x ∷ xs) (inl h) = inl (made (x.id == c) (eq-eqb x.id c h.0))
  where
    made : (b : Bool) → b ≡ true
        → ((cond b (record x { pending = q }) x).id ≡ c) × ((cond b (record x { pending = q }) x).pending ≡ q)
    made true e = (h.0, refl)
    made false e = absurd cc
asks-for c p q (x ∷ xs) (inr h) = inr (asks-for c p q xs h)

-- The ask stands first, and what follows is inner.
pub record Begins (t c : ℕ) (a : Ask) (S S1 : State) : Type 0 where
  pub rest : List Written
  pub entries : S1.entries ≡ S.entries ++ at_moment t (Asks c a) ∷ rest
  pub inner : AreInner rest
  pub conns : S1.conns ≡ conns_with (map (pend c (Some (length S.entries))) S.conns) (length S.entries + 1) rest
  pub awaited : AreAwaited (map (pend c (Some (length S.entries))) S.conns) (length S.entries + 1) rest
  pub opened : S1.opened ≡ S.opened

begins-by : (t c : ℕ) (a : Ask) (S S1 S2 : State) → S1.entries ≡ S.entries ++ at_moment t (Asks c a) ∷ []
    → S1.conns ≡ map (pend c (Some (length S.entries))) S.conns → S1.opened ≡ S.opened → Moves S1 S2
    → Begins t c a S S2
begins-by t c a S S1 S2 entries conns opened m =
    let n : ℕ = length S.entries in
    let long : length S1.entries ≡ n + 1 =
    ap length entries ∙ length-append S.entries (at_moment t (Asks c a) ∷ []) in
    record {
      rest = m.more;
      entries =
          m.entries ∙ ap (λ (es : List Written). es ++ m.more) entries
          ∙ append_assoc S.entries (at_moment t (Asks c a) ∷ []) m.more;
      inner = m.inner;
      conns =
          m.conns ∙ ap (λ (cs : List Conn). conns_with cs (length S1.entries) m.more) conns
          ∙ ap (λ (k : ℕ). conns_with (map (pend c (Some n)) S.conns) k m.more) long;
      awaited =
          subst (λ (k : ℕ). AreAwaited (map (pend c (Some n)) S.conns) k m.more) long
          (subst (λ (cs : List Conn). AreAwaited cs (length S1.entries) m.more) conns m.awaited);
      opened = m.opened ∙ opened;
    }

asked-begins : (t c : ℕ) (a : Ask) (n : Numbers) (S : State) → HasConn S.conns c None → Begins t c a S (asked t c a n S)
asked-begins t c a n S idle = sense a.sense
  where
    turned_away : (cause : Cause) → Begins t c a S (refused t c a cause S)
    turned_away cause =
        let k : ℕ = length S.entries in
        begins-by t c a S (asks t c a S) (refused t c a cause S) refl refl refl
        (one t (Answers c k (Fault cause k)) (asks t c a S) (refused t c a cause S) refl refl refl refl
        (asks-for c None (Some k) S.conns idle))

    begun : (q : CoapRequest) → Begins t c a S (next t q.peer (begins t c a q n.token n.text n.word S))
    begun q =
        let S1 = begins t c a q n.token n.text n.word S in
        begins-by t c a S S1 (next t q.peer S1) refl refl refl (next-moves t q.peer S1)

    place : (b : Bool) (S1 S2 : State) → Begins t c a S S1 → Begins t c a S S2 → Begins t c a S (cond b S1 S2)
    place true S1 S2 x y = x
    place false S1 S2 x y = y

    -- what is stored answers it
    kept : (q : CoapRequest) (s : Stored) → Begins t c a S (serves t c a q s S)
    kept q s =
        let k : ℕ = length S.entries in
        let S1 = recalls t c a (asked_key q) S in
        begins-by t c a S S1 (serves t c a q s S) refl refl refl
        (one t (Answers c k (Kept s.list)) S1 (serves t c a q s S) refl refl refl refl
        (asks-for c None (Some k) S.conns idle))

    sense : (s : Sense) → Begins t c a S (asked_by s t c a n S)
    sense (Refuses cause status) = turned_away cause
    sense (Requests q) = for (served_in q t S)
      where
        with : (v : Option Exchange) → Begins t c a S (asked_with v t c a q n S)
        with (Some e) = begins-by t c a S (joins t c a e.opening S) (joins t c a e.opening S) refl refl refl (none (joins t c a e.opening S))
        with None = place (has_place t q.peer S)
            (next t q.peer (begins t c a q n.token n.text n.word S)) (refused t c a C.Busy S)
            (begun q) (turned_away C.Busy)

        for : (v : Option Stored) → Begins t c a S (asked_for v t c a q n S)
        for (Some s) = kept q s
        for None = with (joined q S)

-- It begins so, or the journal is sealed; or nothing happens.
pub asks-begin : (t c : ℕ) (a : Ask) (n : Numbers) (S : State) → HasConn S.conns c None
    → Begins t c a S (asks_in_room t c a n S) ⊎ (Moves S (asks_in_room t c a n S) × ((asks_in_room t c a n S).sealed ≡ true))
asks-begin t c a n S idle = by S.sealed refl
  where
    fit : (b : Bool) → Begins t c a S (cond b (asked t c a n S) (seals t S))
        ⊎ (Moves S (cond b (asked t c a n S) (seals t S)) × ((cond b (asked t c a n S) (seals t S)).sealed ≡ true))
    fit true = inl (asked-begins t c a n S idle)
    fit false = inr (seals-move t S, refl)

    by : (b : Bool) → S.sealed ≡ b → Begins t c a S (cond b S (in_room t (asked t c a n S) S))
        ⊎ (Moves S (cond b S (in_room t (asked t c a n S) S)) × ((cond b S (in_room t (asked t c a n S) S)).sealed ≡ true))
    by true e = inr (none S, e)
    by false e = fit (fits (asked t c a n S))

-- An ask that is denied adds the seal at most.

next-sealed : (t : ℕ) (p : Peer) (o : Option Outstanding) (ws : List Waiting) (S : State) → (next_by t p o ws S).sealed ≡ S.sealed
next-sealed t p None (w ∷ ws) S = refl
next-sealed t p None [] S = refl
next-sealed t p (Some o) ws S = refl

one-sealed : (b : Bool) (x y : State) (s : Bool) → x.sealed ≡ s → y.sealed ≡ s → (cond b x y).sealed ≡ s
one-sealed true x y s e f = e
one-sealed false x y s e f = f

asked-sealed : (sense : Sense) (t c : ℕ) (a : Ask) (n : Numbers) (S : State) → (asked_by sense t c a n S).sealed ≡ S.sealed
asked-sealed (Refuses cause status) t c a n S = refl
asked-sealed (Requests q) t c a n S =
    for (served_in q t S)
  where
    B : State
    B = begins t c a q n.token n.text n.word S

    with : (v : Option Exchange) → (asked_with v t c a q n S).sealed ≡ S.sealed
    with (Some e) = refl
    with None = one-sealed (has_place t q.peer S) (next t q.peer B) (refused t c a C.Busy S) S.sealed
        (next-sealed t q.peer (link_of B.links q.peer).outstanding (link_of B.links q.peer).waiting B) refl

    for : (v : Option Stored) → (asked_for v t c a q n S).sealed ≡ S.sealed
    for (Some s) = refl
    for None = with (joined q S)

pub denied-is : (t c : ℕ) (a : Ask) (n : Numbers) (S : State) → (asks_in_room t c a n S).sealed ≡ true
    → (asks_in_room t c a n S ≡ S) ⊎ (asks_in_room t c a n S ≡ seals t S)
denied-is t c a n S e = by S.sealed refl e
  where
    fit : S.sealed ≡ false → (b : Bool) → (cond b (asked t c a n S) (seals t S)).sealed ≡ true
        → (cond b (asked t c a n S) (seals t S) ≡ S) ⊎ (cond b (asked t c a n S) (seals t S) ≡ seals t S)
    fit f true e = absurd (both_ways (asked t c a n S).sealed (asked-sealed a.sense t c a n S ∙ f) e)
    fit f false e = inr refl

    by : (b : Bool) → S.sealed ≡ b → (cond b S (in_room t (asked t c a n S) S)).sealed ≡ true
        → (cond b S (in_room t (asked t c a n S) S) ≡ S) ⊎ (cond b S (in_room t (asked t c a n S) S) ≡ seals t S)
    by true f e = inl refl
    by false f e = fit f (fits (asked t c a n S)) e
