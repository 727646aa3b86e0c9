-- After a turn the journal is within its limits.
use Rattle.std.proofs.Common.{◌≡◌, ℕ, ◌≤◌, Bool, true, false, cond, not, List, [], ◌∷◌, ◌++◌, length, map, None, refl, sym, ap, ◌∙◌, arith, append-nil, append_assoc}
use Rattle.std.specs.Prelude.{◌||◌, nat_le, nat_lt, filter, sum_by}
use Rattle.std.specs.List.{AllByRecursion, list_any}
use Rattle.std.proofs.lemmas.Bool.{false≢true, and_parts}
use Rattle.uri_map.specs.declared.peer.Peer.{Peer}
use Rattle.uri_map.specs.Peers.{same_peer}
use Rattle.journal_book.specs.Entries.{Written, entry_size}
use Rattle.exchange_model.specs.State.{PeerLink, State}
use Rattle.exchange_model.specs.Calls.{peer_of}
use Rattle.exchange_model.specs.Entering.{StandsOnce}
use Rattle.exchange_model.specs.Room.{AreApart, IsShort}
use Rattle.exchange_model.specs.Rotating.{RotatesInRoom, RotatesDrained, Unsealed, Given, Connected, Exchanging, Spent, Crowded, Backed, all_over, are_few, backed, carried_numbers, copied_entries, copies, copies_with, few_of, fault_of, has_copy, is_spent, keep_peer, turned}
use Rattle.exchange_model.proofs.Here.{turns-here}
use Rattle.exchange_model.proofs.InRoom.{fits-from, le-true}
use Rattle.exchange_model.proofs.Turned.{first-none, rotates-keeps}

-- There are few copies of what is remembered,

is-true : (b : Bool) → not b ≡ false → b ≡ true
is-true true e = refl
is-true false e = absurd (false≢true (sym e))

few-remembered : (t : ℕ) (S : State) → fault_of t S ≡ None → are_few (copies t S.entries) ≡ true
few-remembered t S e =
    let a = first-none (not S.sealed) Unsealed _ e in
    let g = first-none (nat_lt 0 S.given) Given _ a.1 in
    let b = first-none (nat_lt 0 (length S.conns)) Connected _ g.1 in
    let c = first-none (not (all_over t S)) Exchanging _ b.1 in
    let d = first-none (is_spent S) Spent _ c.1 in
    let f = first-none (not (are_few (copies t S.entries))) Crowded None d.1 in
    is-true (are_few (copies t S.entries)) f.0

-- and of what is taken.
few-taken : (t : ℕ) (ws : List Written) (gs : List ℕ) (bs : List Backed) → are_few (copies_with t ws gs) ≡ true
    → are_few (copies_with t ws (gs ++ carried_numbers (few_of t ws gs bs))) ≡ true
few-taken t ws gs [] e = ap (λ (ns : List ℕ). are_few (copies_with t ws ns)) (append-nil gs) ∙ e
few-taken t ws gs (b ∷ bs) e = by (are_few (copies_with t ws (gs ++ b.numbers))) refl (λ few. few-taken t ws (gs ++ b.numbers) bs few)
  where
    by : (c : Bool) → are_few (copies_with t ws (gs ++ b.numbers)) ≡ c
        → (are_few (copies_with t ws (gs ++ b.numbers)) ≡ true → are_few (copies_with t ws ((gs ++ b.numbers) ++ carried_numbers (few_of t ws (gs ++ b.numbers) bs))) ≡ true)
        → are_few (copies_with t ws (gs ++ carried_numbers (cond c (b ∷ few_of t ws (gs ++ b.numbers) bs) []))) ≡ true
    by true few ih =
        ap (λ (ns : List ℕ). are_few (copies_with t ws ns)) (sym (append_assoc gs b.numbers (carried_numbers (few_of t ws (gs ++ b.numbers) bs))))
        ∙ ih few
    by false many ih = ap (λ (ns : List ℕ). are_few (copies_with t ws ns)) (append-nil gs) ∙ e

few-copies : (t : ℕ) (S : State) → fault_of t S ≡ None
    → (length (copied_entries t S) ≤ 32768) × (sum_by entry_size (copied_entries t S) ≤ 134217728)
few-copies t S e =
    let ws = copied_entries t S in
    let few : are_few ws ≡ true = few-taken t S.entries [] (backed t S S.store) (few-remembered t S e) in
    let both = and_parts (nat_le (length ws) 32768) (nat_le (sum_by entry_size ws) 134217728) few in
    (le-true (length ws) 32768 both.0, le-true (sum_by entry_size ws) 134217728 both.1)

-- Each link goes on without what waits.
all-short : (t : ℕ) (ws : List Written) (xs : List PeerLink) → AllByRecursion (λ (x : PeerLink). IsShort x.link) (filter (has_copy ws) (map (keep_peer t) xs))
all-short t ws [] = tt
all-short t ws (x ∷ xs) = by (has_copy ws (keep_peer t x)) (all-short t ws xs)
  where
    kept : List PeerLink
    kept = filter (has_copy ws) (map (keep_peer t) xs)

    by : (b : Bool) → AllByRecursion (λ (y : PeerLink). IsShort y.link) kept
        → AllByRecursion (λ (y : PeerLink). IsShort y.link) (cond b (keep_peer t x ∷ kept) kept)
    by true others = (record { outstanding = tt; waiting = tt }, others)
    by false others = others

all-out : (t : ℕ) (ws : List Written) (xs : List PeerLink) → AllByRecursion (λ (x : PeerLink). x.link.out ≡ []) (filter (has_copy ws) (map (keep_peer t) xs))
all-out t ws [] = tt
all-out t ws (x ∷ xs) = by (has_copy ws (keep_peer t x)) (all-out t ws xs)
  where
    kept : List PeerLink
    kept = filter (has_copy ws) (map (keep_peer t) xs)

    by : (b : Bool) → AllByRecursion (λ (y : PeerLink). y.link.out ≡ []) kept
        → AllByRecursion (λ (y : PeerLink). y.link.out ≡ []) (cond b (keep_peer t x ∷ kept) kept)
    by true others = (refl, others)
    by false others = others

-- Each endpoint has one link still.
none-kept : (t : ℕ) (ws : List Written) (p : Peer) (xs : List PeerLink) → list_any (λ (q : Peer). same_peer q p) (map peer_of xs) ≡ false
    → list_any (λ (q : Peer). same_peer q p) (map peer_of (filter (has_copy ws) (map (keep_peer t) xs))) ≡ false
none-kept t ws p [] e = refl
none-kept t ws p (x ∷ xs) e =
    let both = or-false (same_peer x.peer p) (list_any (λ (q : Peer). same_peer q p) (map peer_of xs)) e in
    by (has_copy ws (keep_peer t x)) both.0 (none-kept t ws p xs both.1)
  where
    kept : List PeerLink
    kept = filter (has_copy ws) (map (keep_peer t) xs)

    or-false : (a b : Bool) → (a || b) ≡ false → (a ≡ false) × (b ≡ false)
    or-false true b e = absurd (false≢true (sym e))
    or-false false b e = (refl, e)

    by : (b : Bool) → same_peer x.peer p ≡ false → list_any (λ (q : Peer). same_peer q p) (map peer_of kept) ≡ false
        → list_any (λ (q : Peer). same_peer q p) (map peer_of (cond b (keep_peer t x ∷ kept) kept)) ≡ false
    by true here others = rw (here) others
    by false here others = others

apart-kept : (t : ℕ) (ws : List Written) (xs : List PeerLink) → AreApart (map peer_of xs) → AreApart (map peer_of (filter (has_copy ws) (map (keep_peer t) xs)))
apart-kept t ws [] h = tt
apart-kept t ws (x ∷ xs) h = by (has_copy ws (keep_peer t x)) (apart-kept t ws xs h.1)
  where
    kept : List PeerLink
    kept = filter (has_copy ws) (map (keep_peer t) xs)

    by : (b : Bool) → AreApart (map peer_of kept) → AreApart (map peer_of (cond b (keep_peer t x ∷ kept) kept))
    by true others = (none-kept t ws x.peer xs h.0, others)
    by false others = others

others-kept : (t : ℕ) (ws : List Written) (p : Peer) (xs : List PeerLink) → AllByRecursion (λ (y : PeerLink). same_peer p y.peer ≡ false) xs
    → AllByRecursion (λ (y : PeerLink). same_peer p y.peer ≡ false) (filter (has_copy ws) (map (keep_peer t) xs))
others-kept t ws p [] h = tt
others-kept t ws p (x ∷ xs) h = by (has_copy ws (keep_peer t x)) (others-kept t ws p xs h.1)
  where
    kept : List PeerLink
    kept = filter (has_copy ws) (map (keep_peer t) xs)

    by : (b : Bool) → AllByRecursion (λ (y : PeerLink). same_peer p y.peer ≡ false) kept
        → AllByRecursion (λ (y : PeerLink). same_peer p y.peer ≡ false) (cond b (keep_peer t x ∷ kept) kept)
    by true others = (h.0, others)
    by false others = others

once-kept : (t : ℕ) (ws : List Written) (xs : List PeerLink) → StandsOnce xs → StandsOnce (filter (has_copy ws) (map (keep_peer t) xs))
once-kept t ws [] h = tt
once-kept t ws (x ∷ xs) h = by (has_copy ws (keep_peer t x)) (once-kept t ws xs h.1)
  where
    kept : List PeerLink
    kept = filter (has_copy ws) (map (keep_peer t) xs)

    by : (b : Bool) → StandsOnce kept → StandsOnce (cond b (keep_peer t x ∷ kept) kept)
    by true others = (others-kept t ws x.peer xs h.0, others)
    by false others = others

pub rotates-in-room : RotatesInRoom
rotates-in-room t S k later fit =
    let few = few-copies t S fit in
    let entries = few.0 in
    let bytes = few.1 in
    record {
      kept = rotates-keeps t S k.kept later fit;
      here = turns-here t S fit;
      fit = fits-from (turned t S) (omega (arith, entries)) (omega (arith, bytes));
      short = all-short t (copied_entries t S) S.links;
      apart = apart-kept t (copied_entries t S) S.links k.apart;
    }

pub rotates-drained : RotatesDrained
rotates-drained t S d = record {
  once = once-kept t (copied_entries t S) S.links d.once;
  out = all-out t (copied_entries t S) S.links;
}
