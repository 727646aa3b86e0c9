-- What a tick leaves.
use Rattle.std.proofs.Common.{◌≡◌, ℕ, ◌+◌, ◌<◌, ◌≤◌, Bool, true, false, cond, not, leb, inl, inr, List, [], ◌∷◌, ◌++◌, length, map, Option, Some, None, refl, sym, ap, subst, ◌∙◌, arith, append_assoc, length-append}
use Rattle.std.specs.Prelude.{filter, fold, is_none}
use Rattle.std.specs.List.{AllByRecursion}
use Rattle.std.proofs.lemmas.Bool.{lt-ltb, le-ltb}
use Rattle.std.proofs.lemmas.Bool.Decides.{eqb_tells, leb_tells}
use Rattle.uri_map.specs.declared.peer.Peer.{Peer}
use Rattle.uri_map.specs.Peers.{same_peer}
use Rattle.uri_map.proofs.CallerLemmas.{same_peer-itself}
use Rattle.message_layer.specs.Values.{LinkState}
use Rattle.message_layer.specs.Sending.{due_of, with_copy, submitted_by}
use Rattle.message_layer.specs.declared.state.Outstanding.{Outstanding}
use Rattle.message_layer.specs.declared.state.Waiting.{Waiting}
use Rattle.journal_book.specs.Entries.{Deed, Passes, Sends}
use Rattle.history_laws.proofs.CallerLemmas.{all-more, all-push}
use Rattle.observe_share.specs.Watches.{without}
use Rattle.history_links.specs.Steps.{is_over}
use Rattle.exchange_model.specs.Steps.{given_out, sends_copy}
use Rattle.exchange_model.specs.Matters.{left_by}
use Rattle.exchange_model.specs.Hearing.{is_unwatched, retired, passed, passes, is_gone, goes_on, is_of_none, timed_out, is_stale_of_none}
use Rattle.exchange_model.specs.declared.kept.Exchange.{Exchange}
use Rattle.exchange_model.specs.State.{PeerLink, State, link_of, with_link}
use Rattle.exchange_model.specs.Calls.{moves_by, moves, peer_of, move_all}
use Rattle.exchange_model.specs.Keeping.{MayStep}
use Rattle.exchange_model.specs.Entering.{Going, going_as, sent_as, first_deeds, in_turn, link_deeds, link_going, rid, turn_deeds, all_deeds, all_going, link_after, StandsOnce, IsDrained}
use Rattle.exchange_model.proofs.Entered.{put, after, next-put, entries-more, sent-both, given-itself}
use Rattle.exchange_model.proofs.Heeded.{next-conns}
use Rattle.exchange_model.proofs.Lists.{all-both, all-map}
use Rattle.exchange_model.proofs.LinksHeard.{Turns, turns}
use Rattle.exchange_model.proofs.LinksTicked.{moved_by, moved, Few, tick-same, few-copies, fewer-turn}
use Rattle.exchange_model.proofs.Tables.{link-same}

-- What goes out at a visit.

abbrev visit_deeds : ℕ → Peer → LinkState → Option Outstanding → List Deed
visit_deeds t p s None = first_deeds t p s.last_mid (in_turn true s.waiting)
visit_deeds t p s (Some o) = cond (leb (due_of o) t) (Sends p o.datagram None ∷ []) []

abbrev visit_going : LinkState → Option Outstanding → Option Waiting
visit_going s None = in_turn true s.waiting
visit_going s (Some o) = None

visit-put : (t : ℕ) (p : Peer) (s : LinkState) (S : State) → S.links ≡ with_link p s S.links
    → s.out ≡ []
    → moves t S p ≡ put t (visit_deeds t p s s.outstanding)
    (sent_as (going_as (length S.entries) (visit_going s s.outstanding)) S.exchanges)
    (with_link p (given_out (moved t s)) S.links) S
visit-put t p s S links none =
    ap (λ (u : LinkState). moves_by t p u.outstanding S) here ∙ by s.outstanding refl
  where
    here : link_of S.links p ≡ s
    here = ap (λ (ys : List PeerLink). link_of ys p) links ∙ link-same p s S.links

    visited : Option Outstanding → State
    visited v =
        put t (visit_deeds t p s v)
        (sent_as (going_as (length S.entries) (visit_going s v)) S.exchanges)
        (with_link p (given_out (moved_by t s v)) S.links) S

    copies : (o : Outstanding) (b : Bool) → cond b (sends_copy t p o S) S
        ≡ put t (cond b (Sends p o.datagram None ∷ []) []) S.exchanges
        (with_link p (given_out (cond b (with_copy t s o) s)) S.links) S
    copies o true =
        ap (λ (u : LinkState). put t (Sends p o.datagram None ∷ []) S.exchanges
        (with_link p (given_out (with_copy t u o)) S.links) S) here
    copies o false =
        ap (λ (ys : List PeerLink). record S { links = ys })
        (links ∙ ap (λ (u : LinkState). with_link p u S.links) (sym (given-itself s none)))

    by : (v : Option Outstanding) → s.outstanding ≡ v → moves_by t p v S ≡ visited v
    by (Some o) e = copies o (leb (due_of o) t)
    by None e =
        next-put t p s S.links S links none
        ∙ ap (λ (v : Option Outstanding). let w = in_turn (is_none v) s.waiting in
        put t (first_deeds t p s.last_mid w) (sent_as (going_as (length S.entries) w) S.exchanges)
        (with_link p (given_out (submitted_by t s v)) S.links) S) e

-- Each endpoint has one link.

abbrev Apart : List PeerLink → Peer → Type 0
Apart xs p = AllByRecursion (λ (x : PeerLink). same_peer x.peer p ≡ false) xs

with-amid : (done : List PeerLink) (y : PeerLink) (u : LinkState) (ys : List PeerLink)
    → Apart done y.peer
    → with_link y.peer u (done ++ y ∷ ys) ≡ done ++ record { peer = y.peer; link = u } ∷ ys
with-amid [] y u ys a = rw (same_peer-itself y.peer) refl
with-amid (x ∷ done) y u ys a =
    ap (λ (b : Bool). cond b (record { peer = x.peer; link = u } ∷ (done ++ y ∷ ys))
    (x ∷ with_link y.peer u (done ++ y ∷ ys))) a.0
    ∙ ap (λ (xs : List PeerLink). x ∷ xs) (with-amid done y u ys a.1)

apart-all : (done : List PeerLink) (y : PeerLink) (u : LinkState) (ys : List PeerLink)
    → AllByRecursion (λ (z : PeerLink). Apart done z.peer) ys
    → AllByRecursion (λ (z : PeerLink). same_peer y.peer z.peer ≡ false) ys
    → AllByRecursion (λ (z : PeerLink). Apart (done ++ record { peer = y.peer; link = u } ∷ [])
    z.peer) ys
apart-all done y u ys a b =
    all-more _ (λ (z : PeerLink). Apart (done ++ record { peer = y.peer; link = u } ∷ []) z.peer)
    (λ z h. all-push (λ (x : PeerLink). same_peer x.peer z.peer ≡ false) done
    (record { peer = y.peer; link = u }) h.0 h.1) ys
    (all-both (λ (z : PeerLink). Apart done z.peer)
    (λ (z : PeerLink). same_peer y.peer z.peer ≡ false) ys a b)

-- at each of them, in order

abbrev here_deeds : ℕ → PeerLink → List Deed
here_deeds t y = visit_deeds t y.peer y.link y.link.outstanding

abbrev visits : ℕ → List PeerLink → List Deed
visits t [] = []
visits t (y ∷ ys) = here_deeds t y ++ visits t ys

abbrev visits_going : ℕ → ℕ → List PeerLink → List Going
visits_going t i [] = []
visits_going t i (y ∷ ys) =
    going_as i (visit_going y.link y.link.outstanding)
    ++ visits_going t (i + length (here_deeds t y)) ys

abbrev visited_link : ℕ → PeerLink → PeerLink
visited_link t y = record { peer = y.peer; link = given_out (moved t y.link) }

abbrev AllPut : ℕ → List PeerLink → List PeerLink → State → Type 0
AllPut t ys done S =
    S.links ≡ done ++ ys → AllByRecursion (λ (y : PeerLink). Apart done y.peer) ys → StandsOnce ys
    → AllByRecursion (λ (y : PeerLink). y.link.out ≡ []) ys
    → fold (moves t) S (map peer_of ys) ≡ put t (visits t ys)
    (sent_as (visits_going t (length S.entries) ys) S.exchanges) (done ++ map (visited_link t) ys) S

one-more : (t : ℕ) (y : PeerLink) (ys done : List PeerLink) (S : State)
    → S.links ≡ done ++ y ∷ ys → AllByRecursion (λ (x : PeerLink). Apart done x.peer) (y ∷ ys)
    → StandsOnce (y ∷ ys) → AllByRecursion (λ (x : PeerLink). x.link.out ≡ []) (y ∷ ys)
    → ((past : List PeerLink) (U : State) → AllPut t ys past U)
    → fold (moves t) S (map peer_of (y ∷ ys)) ≡ put t (visits t (y ∷ ys))
    (sent_as (visits_going t (length S.entries) (y ∷ ys)) S.exchanges)
    (done ++ map (visited_link t) (y ∷ ys)) S
one-more t y ys done S links away once none ih =
    after t D (visits t ys) es1 es2 xs1 xs2 S S1 (fold (moves t) S1 (map peer_of ys)) one later
    ∙ (ap (λ (es : List Exchange). put t (D ++ visits t ys) es xs2 S)
    (sent-both (going_as (length S.entries) (visit_going y.link y.link.outstanding))
    (visits_going t (length S.entries + length D) ys) S.exchanges)
    ∙ ap (λ (xs : List PeerLink). put t (D ++ visits t ys)
    (sent_as (visits_going t (length S.entries) (y ∷ ys)) S.exchanges) xs S)
    (append_assoc done (z ∷ []) (map (visited_link t) ys)))
  where
    D : List Deed
    D = here_deeds t y

    z : PeerLink
    z = visited_link t y

    S1 : State
    S1 = moves t S y.peer

    es1 : List Exchange
    es1 = sent_as (going_as (length S.entries) (visit_going y.link y.link.outstanding)) S.exchanges

    es2 : List Exchange
    es2 = sent_as (visits_going t (length S.entries + length D) ys) es1

    xs1 : List PeerLink
    xs1 = with_link y.peer (given_out (moved t y.link)) S.links

    xs2 : List PeerLink
    xs2 = (done ++ z ∷ []) ++ map (visited_link t) ys

    there : S.links ≡ with_link y.peer y.link S.links
    there = links ∙ (sym (with-amid done y y.link ys away.0)
        ∙ sym (ap (with_link y.peer y.link) links))

    one : S1 ≡ put t D es1 xs1 S
    one = visit-put t y.peer y.link S there none.0

    rest : S1.links ≡ (done ++ z ∷ []) ++ ys
    rest =
        ap (λ (U : State). U.links) one
        ∙ (ap (with_link y.peer (given_out (moved t y.link))) links
        ∙ (with-amid done y (given_out (moved t y.link)) ys away.0
        ∙ sym (append_assoc done (z ∷ []) ys)))

    count : length S1.entries ≡ length S.entries + length D
    count = ap (λ (U : State). length U.entries) one ∙ entries-more t D S

    later : fold (moves t) S1 (map peer_of ys) ≡ put t (visits t ys) es2 xs2 S1
    later =
        ih (done ++ z ∷ []) S1 rest (apart-all done y (given_out (moved t y.link)) ys away.1 once.0)
        once.1 none.1
        ∙ (ap (λ (k : ℕ). put t (visits t ys) (sent_as (visits_going t k ys) S1.exchanges) xs2 S1)
        count
        ∙ ap (λ (U : State). put t (visits t ys)
        (sent_as (visits_going t (length S.entries + length D) ys) U.exchanges) xs2 S1) one)

all-put : (t : ℕ) (ys done : List PeerLink) (S : State) → AllPut t ys done S
all-put t [] done S =
    λ links away once none. ap (λ (xs : List PeerLink). record S { links = xs }) links
all-put t (y ∷ ys) done S =
    λ links away once none. one-more t y ys done S links away once none (all-put t ys)

-- What a link sends at its own tick.

pub below : (n : ℕ) → n ≤ 4 → (n ≡ 4 → ⊥) → n < 4
below n few apart = elim (leb_tells 4 n) [
  | inl w ↦ let more = w.1 in absurd (apart (omega (arith, more, few)))
  | inr w ↦ w.1
]

-- without what was given up
abbrev let_go : ℕ → LinkState → Option Outstanding → LinkState
let_go t r v = record r { outstanding = cond (is_over t v) None v }

deeds-same : (t : ℕ) (p : Peer) (r : LinkState) (v : Option Outstanding) → Turns v r.waiting → Few v
    → visit_deeds t p (let_go t r v) (cond (is_over t v) None v) ≡ link_deeds t p r v
deeds-same t p r None h few =
    ap (λ (ws : List Waiting). first_deeds t p r.last_mid (in_turn true ws)) h
deeds-same t p r (Some o) h few = elim (leb_tells (due_of o) t) [
  | inl w ↦ rw (w.0, le-ltb t (due_of o) w.1) (elim (eqb_tells o.retransmissions 4) [
    | inl k ↦ let same = k.1 in rw (k.0, le-ltb o.retransmissions 4 (omega (arith, same))) refl
    | inr k ↦
        let apart = k.1 in
        rw (k.0, w.0, lt-ltb o.retransmissions 4 (below o.retransmissions few apart)) refl
  ])
  | inr w ↦ rw (w.0, lt-ltb t (due_of o) w.1) (elim (eqb_tells o.retransmissions 4) [
    | inl k ↦ rw (k.0, w.0) refl
    | inr k ↦ rw (k.0, w.0) refl
  ])
]

going-same : (t : ℕ) (r : LinkState) (v : Option Outstanding) → Turns v r.waiting → Few v
    → visit_going (let_go t r v) (cond (is_over t v) None v) ≡ link_going t r v
going-same t r None h few = ap (in_turn true) h
going-same t r (Some o) h few = elim (leb_tells (due_of o) t) [
  | inl w ↦ rw (w.0, le-ltb t (due_of o) w.1) (elim (eqb_tells o.retransmissions 4) [
    | inl k ↦ let same = k.1 in rw (k.0, le-ltb o.retransmissions 4 (omega (arith, same))) refl
    | inr k ↦
        let apart = k.1 in
        rw (k.0, lt-ltb o.retransmissions 4 (below o.retransmissions few apart)) refl
  ])
  | inr w ↦ rw (w.0, lt-ltb t (due_of o) w.1) (elim (eqb_tells o.retransmissions 4) [
    | inl k ↦ rw (k.0) refl
    | inr k ↦ rw (k.0) refl
  ])
]

-- what holds of a link that a tick finds
record Fine (gone : List ℕ → Bool) (x : PeerLink) : Type 0 where
  turn : Turns x.link.outstanding (rid gone x).waiting
  few : Few x.link.outstanding

module _ (t : ℕ) (S : State) where
  deeds-all : (xs : List PeerLink) → AllByRecursion (Fine (is_gone t S)) xs
      → visits t (map (passed t S) xs) ≡ all_deeds t (is_gone t S) xs
  deeds-all [] a = refl
  deeds-all (x ∷ xs) a =
      ap (λ (ds : List Deed). ds ++ visits t (map (passed t S) xs))
      (deeds-same t x.peer (rid (is_gone t S) x) x.link.outstanding a.0.turn a.0.few)
      ∙ ap (λ (ds : List Deed). turn_deeds t (is_gone t S) x ++ ds) (deeds-all xs a.1)

  going-all : (i : ℕ) (xs : List PeerLink) → AllByRecursion (Fine (is_gone t S)) xs
      → visits_going t i (map (passed t S) xs) ≡ all_going t (is_gone t S) i xs
  going-all i [] a = refl
  going-all i (x ∷ xs) a =
      let r = rid (is_gone t S) x in
      ap (λ (w : Option Waiting). going_as i w
      ++ visits_going t (i + length (here_deeds t (passed t S x))) (map (passed t S) xs))
      (going-same t r x.link.outstanding a.0.turn a.0.few)
      ∙ (ap (λ (ds : List Deed). going_as i (link_going t r x.link.outstanding)
      ++ visits_going t (i + length ds) (map (passed t S) xs))
      (deeds-same t x.peer r x.link.outstanding a.0.turn a.0.few)
      ∙ ap (λ (gs : List Going). going_as i (link_going t r x.link.outstanding) ++ gs)
      (going-all (i + length (turn_deeds t (is_gone t S) x)) xs a.1))

  links-all : (xs : List PeerLink) → AllByRecursion (Fine (is_gone t S)) xs
      → map (visited_link t) (map (passed t S) xs) ≡ map (link_after t (is_gone t S)) xs
  links-all [] a = refl
  links-all (x ∷ xs) a =
      ap (λ (u : LinkState). record { peer = x.peer; link = u } ∷ map (visited_link t)
      (map (passed t S) xs))
      (tick-same t (rid (is_gone t S) x) x.link.outstanding refl a.0.turn a.0.few)
      ∙ ap (λ (ys : List PeerLink). link_after t (is_gone t S) x ∷ ys) (links-all xs a.1)

  once-passed : (xs : List PeerLink) → StandsOnce xs → StandsOnce (map (passed t S) xs)
  once-passed [] a = tt
  once-passed (x ∷ xs) a = (
    all-map (passed t S) (λ (y : PeerLink). same_peer x.peer y.peer ≡ false) xs a.0,
    once-passed
        xs a.1,
  )

none-done : (ys : List PeerLink) → AllByRecursion (λ (y : PeerLink). Apart [] y.peer) ys
none-done [] = tt
none-done (y ∷ ys) = (tt, none-done ys)

link-amid : (done : List PeerLink) (y : PeerLink) (ys : List PeerLink) → Apart done y.peer
    → link_of (done ++ y ∷ ys) y.peer ≡ y.link
link-amid [] y ys a = rw (same_peer-itself y.peer) refl
link-amid (x ∷ done) y ys a = ap (λ (b : Bool). cond b x.link (link_of (done ++ y ∷ ys) y.peer)) a.0
    ∙ link-amid done y ys a.1

own-links : (ys done : List PeerLink) → AllByRecursion (λ (y : PeerLink). Apart done y.peer) ys
    → StandsOnce ys
    → AllByRecursion (λ (y : PeerLink). link_of (done ++ ys) y.peer ≡ y.link) ys
own-links [] done away once = tt
own-links (y ∷ ys) done away once = (
  link-amid done y ys away.0,
  subst (λ (xs : List PeerLink). AllByRecursion (λ (z : PeerLink). link_of xs z.peer ≡ z.link) ys)
      (append_assoc done (y ∷ []) ys)
      (own-links ys (done ++ y ∷ []) (apart-all done y y.link ys away.1 once.0) once.1),
)

all-fine : (t : ℕ) (S : State) → MayStep t S → StandsOnce S.links
    → AllByRecursion (Fine (is_gone t S)) S.links
all-fine t S may once =
    all-more _ (Fine (is_gone t S)) one S.links (own-links S.links [] (none-done S.links) once)
  where
    one : (x : PeerLink) → link_of S.links x.peer ≡ x.link → Fine (is_gone t S) x
    one x e =
        let s = link_of S.links x.peer in
        let r = may.kept.rests in
        let keep = λ (w : Waiting). not (is_gone t S w.token) in
        let turn : Turns s.outstanding (filter keep s.waiting) =
        fewer-turn keep s.outstanding s.waiting
        (turns _ s.outstanding s.waiting (r.links x.peer)) in
        let few : Few s.outstanding =
        few-copies may.kept.reading x.peer s.outstanding r.reads.legal
        (r.reads.links_are x.peer).turn in
        record {
          turn = subst (λ (u : LinkState). Turns u.outstanding (filter keep u.waiting)) e turn;
          few = subst (λ (u : LinkState). Few u.outstanding) e few;
        }

-- all links in one piece
pub moved-put : (t : ℕ) (S : State) → MayStep t S → IsDrained S
    → let gone = is_gone t S in
    move_all t (passes t S) ≡ put t (Passes ∷ all_deeds t gone S.links)
    (sent_as (all_going t gone (length S.entries + 1) S.links)
    (left_by S.entries (timed_out t S) (filter (goes_on t S) S.exchanges))) (map (link_after t gone) S.links)
    (record S {
      pieces = filter (is_of_none (timed_out t S)) S.pieces;
      stales = filter (is_stale_of_none (timed_out t S)) S.stales;
      watches = without (is_unwatched t S) S.watches;
      store = retired S.entries (timed_out t S) S.store;
    })
moved-put t S may drained =
    after t (Passes ∷ []) (visits t ys) es1 (sent_as (visits_going t (length S1.entries) ys) es1) ys
    (map (visited_link t) ys) K S1 (move_all t S1) refl
    (all-put t ys [] S1 refl (none-done ys) (once-passed t S S.links drained.once)
    (all-map (passed t S) (λ (y : PeerLink). y.link.out ≡ []) S.links drained.out))
    ∙ (ap (λ (k : ℕ). put t (Passes ∷ visits t ys) (sent_as (visits_going t k ys) es1)
    (map (visited_link t) ys) K) (length-append S.entries
    (record { moment = t; deed = Passes } ∷ []))
    ∙ (ap (λ (ds : List Deed). put t (Passes ∷ ds)
    (sent_as (visits_going t (length S.entries + 1) ys) es1) (map (visited_link t) ys) K)
    (deeds-all t S S.links fine)
    ∙ (ap (λ (gs : List Going). put t (Passes ∷ all_deeds t (is_gone t S) S.links) (sent_as gs es1)
    (map (visited_link t) ys) K) (going-all t S (length S.entries + 1) S.links fine)
    ∙ ap (λ (xs : List PeerLink). put t (Passes ∷ all_deeds t (is_gone t S) S.links)
    (sent_as (all_going t (is_gone t S) (length S.entries + 1) S.links) es1) xs K)
    (links-all t S S.links fine))))
  where
    -- the state with the pieces, the watches and what is stored after it
    K : State
    K = record S {
      pieces = filter (is_of_none (timed_out t S)) S.pieces;
      stales = filter (is_stale_of_none (timed_out t S)) S.stales;
      watches = without (is_unwatched t S) S.watches;
      store = retired S.entries (timed_out t S) S.store;
    }

    S1 : State
    S1 = passes t S

    ys : List PeerLink
    ys = map (passed t S) S.links

    es1 : List Exchange
    es1 = left_by S.entries (timed_out t S) (filter (goes_on t S) S.exchanges)

    fine : AllByRecursion (Fine (is_gone t S)) S.links
    fine = all-fine t S may drained.once

-- no connection waits for another ask

moves-conns : (t : ℕ) (p : Peer) (S : State) → (moves t S p).conns ≡ S.conns
moves-conns t p S = by (link_of S.links p).outstanding
  where
    copies : (o : Outstanding) (b : Bool) → (cond b (sends_copy t p o S) S).conns ≡ S.conns
    copies o true = refl
    copies o false = refl

    by : (v : Option Outstanding) → (moves_by t p v S).conns ≡ S.conns
    by None = next-conns t p S
    by (Some o) = copies o (leb (due_of o) t)

pub moved-conns : (t : ℕ) (ps : List Peer) (S : State) → (fold (moves t) S ps).conns ≡ S.conns
moved-conns t [] S = refl
moved-conns t (p ∷ ps) S = moved-conns t ps (moves t S p) ∙ moves-conns t p S
