-- What a tick takes of a journal's room: its entry, and one where something is outstanding.
use Rattle.std.proofs.Common.{◌≡◌, ℕ, ◌+◌, ◌*◌, Bool, true, false, cond, List, [], ◌∷◌, map, Option, Some, None, refl, sym, ap, subst, ◌∙◌, arith}
use Rattle.std.specs.Prelude.{count_by, filter, fold, is_some, not}
use Rattle.std.proofs.lemmas.Bool.{false≢true}
use Rattle.uri_map.specs.declared.peer.Peer.{Peer}
use Rattle.uri_map.specs.Peers.{same_peer}
use Rattle.uri_map.proofs.CallerLemmas.{same_peer-same}
use Rattle.message_layer.specs.Values.{LinkState}
use Rattle.message_layer.specs.declared.state.Outstanding.{Outstanding}
use Rattle.message_layer.specs.declared.state.Waiting.{Waiting}
use Rattle.history_links.specs.Steps.{passed_link}
use Rattle.exchange_model.specs.State.{PeerLink, State, link_of}
use Rattle.exchange_model.specs.Steps.{sends_copy}
use Rattle.exchange_model.specs.Hearing.{is_gone, passes, timed_out}
use Rattle.exchange_model.specs.Resting.{IsUndue, LinkRests}
use Rattle.exchange_model.specs.Calls.{next_by, is_due, moves_by, moves, move_all, peer_of, something_due, tells, told_late, ticked}
use Rattle.exchange_model.proofs.Adding.{Adds, stays, both-add, at-most, still-adds, next-adds, copy-adds}
use Rattle.exchange_model.proofs.ToldAdds.{late-adds, Served}
use Rattle.exchange_model.proofs.Passed.{moved-conns}
use Rattle.exchange_model.proofs.Counting.{one, count-cons}
use Rattle.exchange_model.proofs.Passing.{link-passed}
use Rattle.exchange_model.proofs.Tables.{link-other}
use Rattle.exchange_model.proofs.Tallies.{is_busy}
use Rattle.exchange_model.proofs.Tidy.{Tidy, tidy-passed, peers-passed}

-- Nothing is outstanding, and nothing waits.
pub record IsIdle (s : LinkState) : Type 0 where
  pub free : s.outstanding ≡ None
  pub none : s.waiting ≡ []

-- So it is where nothing was outstanding before the tick.
abbrev AreIdle : List PeerLink → State → Type 0
AreIdle xs S = (p : Peer) → is_busy xs p ≡ false → IsIdle (link_of S.links p)

moves-still : (t : ℕ) (S : State) (p : Peer) → IsIdle (link_of S.links p) → moves t S p ≡ S
moves-still t S p h = rw (h.free, h.free, h.none) refl

moves-adds : (t : ℕ) (S : State) (p : Peer) → Tidy S.links → Adds 1 2088 S (moves t S p)
moves-adds t S p h = by (link_of S.links p).outstanding refl
  where
    copies : (o : Outstanding) → (link_of S.links p).outstanding ≡ Some o → (b : Bool)
        → Adds 1 2088 S (cond b (sends_copy t p o S) S)
    copies o is true = copy-adds t p o S h is
    copies o is false = stays 1 2088 S h

    by : (v : Option Outstanding) → (link_of S.links p).outstanding ≡ v
        → Adds 1 2088 S (moves_by t p v S)
    by None is = next-adds t p S h
    by (Some o) is = copies o is (is_due t (Some o))

-- what goes out to one endpoint leaves the links of others
moves-others : (t : ℕ) (S : State) (p q : Peer) → same_peer p q ≡ false
    → link_of (moves t S p).links q ≡ link_of S.links q
moves-others t S p q away = by (link_of S.links p).outstanding
  where
    copies : (o : Outstanding) (b : Bool)
        → link_of (cond b (sends_copy t p o S) S).links q ≡ link_of S.links q
    copies o true = link-other p q _ away S.links
    copies o false = refl

    first : (v : Option Outstanding) (ws : List Waiting)
        → link_of (next_by t p v ws S).links q ≡ link_of S.links q
    first None [] = refl
    first None (w ∷ ws) = link-other p q _ away S.links
    first (Some o) ws = refl

    by : (v : Option Outstanding) → link_of (moves_by t p v S).links q ≡ link_of S.links q
    by None = first (link_of S.links p).outstanding (link_of S.links p).waiting
    by (Some o) = copies o (is_due t (Some o))

idle-after : (t : ℕ) (xs : List PeerLink) (S : State) (p : Peer) → is_busy xs p ≡ true
    → AreIdle xs S → AreIdle xs (moves t S p)
idle-after t xs S p busy h q idle = by (same_peer p q) refl
  where
    by : (b : Bool) → same_peer p q ≡ b → IsIdle (link_of (moves t S p).links q)
    by true e =
        let is = subst (λ (r : Peer). is_busy xs r ≡ true) (same_peer-same p q e) busy in
        absurd (false≢true (sym idle ∙ is))
    by false e = subst IsIdle (sym (moves-others t S p q e)) (h q idle)

all-move-adds : (t : ℕ) (xs : List PeerLink) (ps : List Peer) (S : State) → Tidy S.links
    → AreIdle xs S
    → Adds (count_by (is_busy xs) ps) (2088 * count_by (is_busy xs) ps) S (fold (moves t) S ps)
all-move-adds t xs [] S h idle = stays 0 0 S h
all-move-adds t xs (p ∷ ps) S h idle =
    by (is_busy xs p) refl (all-move-adds t xs ps S h idle)
    (λ tidy after. all-move-adds t xs ps (moves t S p) tidy after)
  where
    n : ℕ
    n = count_by (is_busy xs) ps

    by : (b : Bool) → is_busy xs p ≡ b → Adds n (2088 * n) S (fold (moves t) S ps)
        → (Tidy (moves t S p).links → AreIdle xs (moves t S p) → Adds n (2088 * n) (moves t S p)
        (fold (moves t) (moves t S p) ps))
        → Adds (count_by (is_busy xs) (p ∷ ps)) (2088 * count_by (is_busy xs) (p ∷ ps)) S
        (fold (moves t) (moves t S p) ps)
    by true busy same after =
        let first = moves-adds t S p h in
        let rest = after first.tidy (idle-after t xs S p busy idle) in
        let c = count-cons (is_busy xs) p ps in
        let here : one (is_busy xs p) ≡ 1 = ap one busy in
        at-most (1 + n) (2088 + 2088 * n) _ _ S _ (omega (arith, c, here)) (omega (arith, c, here))
        (both-add 1 2088 n (2088 * n) S (moves t S p) _ first rest)
    by false free same after =
        let still = moves-still t S p (idle p free) in
        let c = count-cons (is_busy xs) p ps in
        let here : one (is_busy xs p) ≡ 0 = ap one free in
        subst (λ (S1 : State). Adds (count_by (is_busy xs) (p ∷ ps))
        (2088 * count_by (is_busy xs) (p ∷ ps)) S (fold (moves t) S1 ps)) (sym still)
        (at-most n (2088 * n) _ _ S _ (omega (arith, c, here)) (omega (arith, c, here)) same)

-- after its own entry
passed-idle : (t tick : ℕ) (S : State) → ((p : Peer) → LinkRests tick (link_of S.links p))
    → AreIdle S.links (passes t S)
passed-idle t tick S rests p free = subst IsIdle (sym (link-passed t S p S.links))
    (by (link_of S.links p).outstanding refl (rests p) free)
  where
    filtered : (xs : List Waiting) → xs ≡ []
        → filter (λ (w : Waiting). not (is_gone t S w.token)) xs ≡ []
    filtered xs e = rw (e) refl

    by : (v : Option Outstanding) → (link_of S.links p).outstanding ≡ v
        → IsUndue tick v (link_of S.links p).waiting → is_some v ≡ false
        → IsIdle (passed_link t (is_gone t S) (link_of S.links p))
    by None e undue h = record
        { free = rw (e) refl; none = filtered (link_of S.links p).waiting undue }
    by (Some o) e undue h = absurd (false≢true (sym h))

pub ticked-adds : (t tick : ℕ) (S : State) → Tidy S.links → Served S
    → ((p : Peer) → LinkRests tick (link_of S.links p))
    → Adds (1 + count_by (is_busy S.links) (map peer_of S.links))
    (64 + 2088 * count_by (is_busy S.links) (map peer_of S.links)) S (ticked t S)
ticked-adds t tick S h served rests = by (something_due t S)
  where
    n : ℕ
    n = count_by (is_busy S.links) (map peer_of S.links)

    S1 : State
    S1 = passes t S

    same : count_by (is_busy S.links) (map peer_of S1.links) ≡ n
    same = ap (count_by (is_busy S.links)) (peers-passed t S S.links)

    by : (b : Bool)
        → Adds (1 + n) (64 + 2088 * n) S
        (cond b (fold (tells t) (move_all t (passes t S)) (told_late (timed_out t S) S.readers)) S)
    by false = stays (1 + n) (64 + 2088 * n) S h
    by true =
        let tidy = tidy-passed t S S.links h in
        let one = still-adds 64 S S1 _ refl refl refl refl tidy (omega arith) in
        let two = all-move-adds t S.links (map peer_of S1.links) S1 tidy
        (passed-idle t tick S rests) in
        let S2 = move_all t S1 in
        let three = late-adds t (timed_out t S) S.readers S2 two.tidy
        (rw (moved-conns t (map peer_of S1.links) S1) served.waits) served.apart in
        let k = count_by (is_busy S.links) (map peer_of S1.links) in
        let count = same in
        at-most (1 + k + 0) (64 + 2088 * k + 0) (1 + n) (64 + 2088 * n) S _ (omega (arith, count))
        (omega (arith, count))
        (both-add (1 + k) (64 + 2088 * k) 0 0 S S2 _ (both-add 1 64 k (2088 * k) S S1 S2 one two)
        three)
