-- The history counts what the state counts: open connections, asks that wait, what is outstanding.
use Rattle.std.proofs.Common.{◌≡◌, ℕ, zero, suc, ◌+◌, ◌<◌, ◌≤◌, Bool, true, false, cond, not, eqb, ltb, inl, inr, List, [], ◌∷◌, ◌++◌, length, map, Option, Some, None, refl, sym, ap, subst, ◌∙◌, arith, append-nil, ◌-◌}
use Rattle.std.specs.Prelude.{count_by, filter, is_some, option_and_then, ◌&&◌, ◌||◌}
use Rattle.std.specs.List.{AllByRecursion, list_any, range_with_len}
use Rattle.std.proofs.lemmas.List.{length-map, map-append}
use Rattle.std.proofs.lemmas.List.Elements.{filter-append, filter_agree}
use Rattle.std.proofs.lemmas.Bool.{false≢true}
use Rattle.std.proofs.lemmas.Bool.Decides.{eqb_tells, leb_tells}
use Rattle.uri_map.specs.declared.peer.Peer.{Peer}
use Rattle.uri_map.specs.Peers.{same_peer}
use Rattle.journal_book.specs.Entries.{Deed, Opens, Asks, Answers, Shuts}
use Rattle.message_layer.specs.declared.state.Outstanding.{Outstanding}
use Rattle.history_laws.specs.Readings.{Noted, Note, noted}
use Rattle.history_laws.specs.Connections.{is_open, asks_of, answers_of, opened, has_opened}
use Rattle.history_laws.specs.Transmissions.{FirstSending, firsts, is_outstanding, if_outstanding, last_sent}
use Rattle.history_laws.specs.Sealing as H
use Rattle.history_laws.specs.Justified.{Follows, Legal}
use Rattle.history_laws.proofs.CallerLemmas.{all-more, any-of, eqb-itself, filter-by, find-some, next-above, open-below}
use Rattle.history_links.specs.Agrees.{TurnIn}
use Rattle.exchange_model.proofs.Lists.{filter-map, filter-both}
use Rattle.exchange_model.specs.declared.kept.Conn.{Conn}
use Rattle.exchange_model.specs.State.{PeerLink, State, link_of, pend}
use Rattle.exchange_model.specs.Reads.{conns_of, Reads}
use Rattle.exchange_model.specs.Calls.{peer_of}
use Rattle.exchange_model.specs.Room.{has_asked, asks_waiting, AreApart}
use Rattle.exchange_model.proofs.Conns.{PendingIn, ConnIn, conns-open}
use Rattle.exchange_model.proofs.Counting.{one, count-cons, count-map, count-alike, count-more, count-filter, one-each}
use Rattle.exchange_model.proofs.Waiting.{has_id}

-- The connections that are kept are the open ones, in the order of their numbers.

abbrev pub id_of : Conn → ℕ
id_of x = x.id

ids-pend : (c : ℕ) (p : Option ℕ) (xs : List Conn) → map id_of (map (pend c p) xs) ≡ map id_of xs
ids-pend c p [] = refl
ids-pend c p (x ∷ xs) = let ih = ids-pend c p xs in elim (eqb_tells x.id c) [
  | inl w ↦ rw (w.0, ih) refl
  | inr w ↦ rw (w.0, ih) refl
]

range-more : (a n j : ℕ) → a + n ≡ j → range_with_len a (suc n) ≡ range_with_len a n ++ j ∷ []
range-more a zero j e = let same : a ≡ j = omega arith in ap (λ (k : ℕ). k ∷ []) same
range-more a (suc n) j e = ap (λ (ks : List ℕ). a ∷ ks) (range-more (a + 1) n j (omega arith))

pub range-below : (a n m : ℕ) → a + n ≤ m → AllByRecursion (λ (k : ℕ). k < m) (range_with_len a n)
range-below a zero m h = tt
range-below a (suc n) m h = (omega arith, range-below (a + 1) n m (omega arith))

turned : (a b : ℕ) → eqb a b ≡ eqb b a
turned a b = elim (eqb_tells a b) [
  | inl w ↦ w.0 ∙ sym (subst (λ (k : ℕ). eqb b k ≡ true) (sym w.1) (eqb-itself b))
  | inr w ↦ elim (eqb_tells b a) [ inl v ↦ absurd (w.1 (sym v.1)) | inr v ↦ w.0 ∙ sym v.0 ]
]

-- Numbers that none of the open ones has add nothing.
none-between : (p : ℕ → Bool) (n d : ℕ) → ((k : ℕ) → n ≤ k → p k ≡ false) → filter p (range_with_len 0 (d + n)) ≡ filter p (range_with_len 0 n)
none-between p n zero none = ap (λ (k : ℕ). filter p (range_with_len 0 k)) (plus-none n)
  where
    plus-none : (n : ℕ) → 0 + n ≡ n
    plus-none n = omega arith
none-between p n (suc d) none =
    ap (filter p) (ap (range_with_len 0) (next d n) ∙ range-more 0 (d + n) (d + n) (omega arith))
    ∙ (filter-append p (range_with_len 0 (d + n)) ((d + n) ∷ [])
    ∙ (ap (λ (b : Bool). filter p (range_with_len 0 (d + n)) ++ cond b ((d + n) ∷ []) []) (none (d + n) (omega arith))
    ∙ (append-nil (filter p (range_with_len 0 (d + n))) ∙ none-between p n d none)))
  where
    next : (d n : ℕ) → suc d + n ≡ suc (d + n)
    next d n = omega arith

ids-step : (l : List Noted) (t : ℕ) (d : Deed) (note : Note) → Legal l → Follows l t d note
    → map id_of (conns_of l) ≡ H.open_conns l
    → map id_of (conns_of (noted t d note ∷ l)) ≡ H.open_conns (noted t d note ∷ l)
ids-step l t (Opens c) note legal may ih =
    let n = opened l in
    let here : n ≤ c = next-above (has_opened l) n c may.1 in
    let now = λ (k : ℕ). eqb c k || is_open l k in
    let same : filter now (range_with_len 0 c) ≡ filter (is_open l) (range_with_len 0 c) =
    filter-by now (is_open l) (range_with_len 0 c)
    (all-more (λ (k : ℕ). k < c) _ (λ k lt. older c k lt) (range_with_len 0 c)
    (range-below 0 c c (omega arith))) in
    let few : filter (is_open l) (range_with_len 0 c) ≡ H.open_conns l =
    subst (λ (k : ℕ). filter (is_open l) (range_with_len 0 k) ≡ H.open_conns l) (omega (arith, here))
    (none-between (is_open l) n (c - n) (λ k le. closed k le (is_open l k) refl)) in
    let last : filter now (c ∷ []) ≡ c ∷ [] = rw (eqb-itself c) refl in
    let next : c + 1 ≡ suc c = omega arith in
    let on : range_with_len 0 (c + 1) ≡ range_with_len 0 c ++ c ∷ [] =
    ap (range_with_len 0) next ∙ range-more 0 c c (omega arith) in
    map-append id_of (conns_of l) (record { id = c; pending = None } ∷ [])
    ∙ ap (λ (ks : List ℕ). ks ++ c ∷ []) ih
    ∙ sym (ap (filter now) on
    ∙ (filter-append now (range_with_len 0 c) (c ∷ [])
    ∙ (ap (λ (ks : List ℕ). ks ++ filter now (c ∷ [])) (same ∙ few)
    ∙ ap (λ (ks : List ℕ). H.open_conns l ++ ks) last)))
  where
    older : (c k : ℕ) → k < c → (eqb c k || is_open l k) ≡ is_open l k
    older c k lt = elim (eqb_tells c k) [
      | inl w ↦ absurd (let same = w.1 in omega (arith, same, lt))
      | inr w ↦ rw (w.0) refl
    ]

    closed : (k : ℕ) → opened l ≤ k → (b : Bool) → is_open l k ≡ b → b ≡ false
    closed k le true e = let lt = open-below l legal k e in absurd (omega (arith, le, lt))
    closed k le false e = refl
ids-step l t (Shuts c) note legal may ih =
    sym (filter-map (λ (k : ℕ). not (eqb k c)) id_of (conns_of l))
    ∙ ap (filter (λ (k : ℕ). not (eqb k c))) ih
    ∙ filter_agree (λ (k : ℕ). not (eqb k c)) (λ (k : ℕ). not (eqb c k)) (λ k. ap not (turned k c))
    (H.open_conns l)
    ∙ sym (filter-both (λ (k : ℕ). not (eqb c k)) (is_open l) (range_with_len 0 (opened l)))
ids-step l t (Asks c a) note legal may ih = ids-pend c (Some (length l)) (conns_of l) ∙ ih
ids-step l t (Answers c k g) note legal may ih = ids-pend c None (conns_of l) ∙ ih
ids-step l t d note legal may ih = ih

pub open-ids : (l : List Noted) → Legal l → map id_of (conns_of l) ≡ H.open_conns l
open-ids [] legal = refl
open-ids (x ∷ older) legal = ids-step older x.written.moment x.written.deed x.note legal.0 legal.2
    (open-ids older legal.0)

pub conns-count : (l : List Noted) (S : State) → Reads l S
    → length S.conns ≡ length (H.open_conns l)
conns-count l S r = ap length (sym r.conns_are)
    ∙ (sym (length-map (conns_of l) id_of) ∙ ap length (open-ids l r.legal))

-- The asks that wait.

asked-alike : (l : List Noted) (x : Conn) → ConnIn l x → has_asked x ≡ H.has_asked l x.id
asked-alike l x w = by x.pending w.waits
  where
    by : (v : Option ℕ) → PendingIn l x.id v
        → is_some v ≡ ltb (length (answers_of l x.id)) (length (asks_of l x.id))
    by None h = rw (h) (sym (less-self (length (answers_of l x.id))))
      where
        less-self : (n : ℕ) → ltb n n ≡ false
        less-self n = elim (leb_tells (suc n) n) [
          | inl v ↦ absurd (let h = v.1 in omega (arith, h))
          | inr v ↦ v.0
        ]
    by (Some k) h = rw (h.1) (sym (less-more (length (answers_of l x.id))))
      where
        less-more : (n : ℕ) → ltb n (n + 1) ≡ true
        less-more n = elim (leb_tells (suc n) (n + 1)) [
          | inl v ↦ v.0
          | inr v ↦ absurd (let h = v.1 in omega (arith, h))
        ]

pub asks-count : (l : List Noted) (S : State) → Reads l S → asks_waiting S ≡ H.asks_waiting l
asks-count l S r =
    ap (count_by has_asked) (sym r.conns_are)
    ∙ (count-alike has_asked (λ (x : Conn). H.has_asked l x.id) (conns_of l)
    (all-more (ConnIn l) _ (asked-alike l) (conns_of l) (conns-open l r.legal))
    ∙ (sym (count-map (H.has_asked l) id_of (conns_of l)) ∙ ap (count_by (H.has_asked l))
    (open-ids l r.legal)))

-- A number is borne by one connection.

range-none : (c a n : ℕ) → c < a → count_by (λ (k : ℕ). eqb k c) (range_with_len a n) ≡ 0
range-none c a zero lt = refl
range-none c a (suc n) lt =
    let ih = range-none c (a + 1) n (omega arith) in
    let new = count-cons (λ (k : ℕ). eqb k c) a (range_with_len (a + 1) n) in
    elim (eqb_tells a c) [
      | inl w ↦ absurd (let same = w.1 in omega (arith, same, lt))
      | inr w ↦ let here : one (eqb a c) ≡ 0 = ap one w.0 in omega (arith, ih, new, here)
    ]

range-once : (c a n : ℕ) → count_by (λ (k : ℕ). eqb k c) (range_with_len a n) ≤ 1
range-once c a zero = omega arith
range-once c a (suc n) =
    let ih = range-once c (a + 1) n in
    let new = count-cons (λ (k : ℕ). eqb k c) a (range_with_len (a + 1) n) in
    elim (eqb_tells a c) [
      | inl w ↦
          let rest = range-none c (a + 1) n (let same = w.1 in omega (arith, same)) in
          let here : one (eqb a c) ≡ 1 = ap one w.0 in
          omega (arith, rest, new, here)
      | inr w ↦ let here : one (eqb a c) ≡ 0 = ap one w.0 in omega (arith, ih, new, here)
    ]

pub id-once : (l : List Noted) (S : State) (c : ℕ) → Reads l S → count_by (has_id c) S.conns ≤ 1
id-once l S c r =
    let same = ap (count_by (has_id c)) (sym r.conns_are)
    ∙ (sym (count-map (λ (k : ℕ). eqb k c) id_of (conns_of l)) ∙ ap (count_by (λ (k : ℕ). eqb k c))
    (open-ids l r.legal)) in
    let fewer = count-filter (λ (k : ℕ). eqb k c) (is_open l) (range_with_len 0 (opened l)) in
    let once = range-once c 0 (opened l) in
    omega (arith, same, fewer, once)

-- Something is outstanding at an endpoint, where the history says so.

abbrev pub is_busy : List PeerLink → Peer → Bool
is_busy xs p = is_some (link_of xs p).outstanding

from-last : (l : List Noted) (v : Option FirstSending) (f : FirstSending)
    → option_and_then (if_outstanding l) v ≡ Some f → (v ≡ Some f) × (is_outstanding l f ≡ true)
from-last l None f e = absurd (none e)
  where
    none : None ≡ Some f → ⊥
    none k = cc
from-last l (Some g) f e = by (is_outstanding l g) refl e
  where
    none : None ≡ Some f → ⊥
    none k = cc

    by : (b : Bool) → is_outstanding l g ≡ b → cond b (Some g) None ≡ Some f
        → (Some g ≡ Some f) × (is_outstanding l f ≡ true)
    by true is h = let same : g ≡ f = cc in
        (h, subst (λ (k : FirstSending). is_outstanding l k ≡ true) same is)
    by false is h = absurd (none h)

busy-found : (l : List Noted) (S : State) → Reads l S → (p : Peer) → is_busy S.links p ≡ true
    → list_any (λ (f : FirstSending). is_outstanding l f && same_peer f.peer p) (firsts l) ≡ true
busy-found l S r p e = by (link_of S.links p).outstanding (r.links_are p).turn e
  where
    by : (v : Option Outstanding) → TurnIn l p v → is_some v ≡ true
        → list_any (λ (f : FirstSending). is_outstanding l f && same_peer f.peer p)
        (firsts l) ≡ true
    by None turn h = absurd (false≢true h)
    by (Some o) turn h =
        let last = from-last l (last_sent l p) turn.first turn.is in
        let found = find-some (λ (f : FirstSending). same_peer f.peer p) (firsts l) turn.first
        last.0 in
        any-of (λ (f : FirstSending). is_outstanding l f && same_peer f.peer p) (firsts l)
        turn.first found.0 (rw (last.1, found.1) refl)

pub busy-count : (l : List Noted) (S : State) → Reads l S → AreApart (map peer_of S.links)
    → count_by (is_busy S.links) (map peer_of S.links) ≤ H.outstanding_count l
busy-count l S r apart =
    let ps = map peer_of S.links in
    let more = count-more (is_busy S.links)
    (λ (p : Peer). list_any (λ (f : FirstSending). is_outstanding l f && same_peer f.peer p)
    (firsts l)) (busy-found l S r) ps in
    let each = one-each (is_outstanding l) (λ (f : FirstSending). f.peer) (firsts l) ps apart in
    omega (arith, more, each)
