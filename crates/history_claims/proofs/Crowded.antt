-- That there was no room for an ask, or no place for the next message of one.
use Rattle.std.proofs.Common.{◌≡◌, ℕ, ◌+◌, ◌-◌, ◌<◌, ◌≤◌, true, false, ◌&&◌, inl, inr, List, [], ◌∷◌, length, map, filter, Option, Some, None, refl, sym, subst, ◌∙◌, arith}
use Rattle.std.specs.Prelude.{is_none, nat_lt, ⊤}
use Rattle.std.specs.List.{Contains}
use Rattle.std.proofs.lemmas.List.Sums.{length-filter}
use Rattle.std.proofs.lemmas.Bool.{and_cases, and_parts, false≢true, ltb-true, ltb-false}
use Rattle.std.proofs.lemmas.List.{length-map}
use Rattle.limits.specs.declared.TheConstants.{MAX_EXCHANGES, MAX_MESSAGE_IDS, MAX_WAITING, MESSAGE_ID_LIFETIME}
use Rattle.uri_map.specs.declared.peer.Peer.{Peer}
use Rattle.uri_map.specs.Peers.{same_peer}
use Rattle.ask_model.specs.Requests.{CoapRequest, Sense, Requests}
use Rattle.ask_model.specs.Views.{Ask}
use Rattle.uri_map.proofs.CallerLemmas.{same_peer-same}
use Rattle.history_claims.proofs.Sending.{first-before, listed-sent}
use Rattle.history_claims.proofs.Pending.{open-is}
use Rattle.history_claims.proofs.Unshared.{unshared}
use Rattle.history_claims.proofs.Counting.{apart-push, apart-filter, apart-filtered}
use Rattle.journal_book.specs.Entries.{Sent, Deed, Sends, Hears, Asks, Carries, Written}
use Rattle.history_laws.specs.Readings.{Noted, Note, Plain, First, Bygone, entries, at, before, noted}
use Rattle.history_laws.specs.Connections.{is_sealed}
use Rattle.history_laws.specs.Transmissions.{FirstSending, firsts_by, firsts, is_recent, mids_used}
use Rattle.history_laws.specs.Exchanges.{Begun, begun, opens_by, opened_by, openings, is_going, open_exchanges, goes_to, is_waiting, waiting as waiting_at, waits_for, submitted}
use Rattle.history_laws.specs.Hearing.{has_room, let_go, has_place}
use Rattle.history_laws.specs.Justified.{AskNote, Follows, Legal}
use Rattle.history_laws.proofs.CallerLemmas.{all-listed, all-of, at-before, begun-below, contains-mapped, filtered-from, first-or-later, follows-at, is-some, IsListed, length-before, listed-begun, listed-below, none-some, queue-rises, RisesBy, waiting-all, waiting-unsent, legal-before}
use Rattle.history_claims.specs.Headline.{IsOpen}
use Rattle.history_claims.specs.Causes.{AreApart, AreMany, AreUnshared, AreManyPending, IsRecent, IsCrowded, exchanges, waiting, ids, IsFull, queue, mids}

openings-below : (l : List Noted) (o : ℕ) → Contains (openings l) o → o < length l
openings-below l o h = let b = is-some (begun l o) (listed-begun l o h) in begun-below l o b.0 b.1

openings-step : (n : ℕ) (q : Option CoapRequest) (os : List ℕ) → AreApart os → (Contains os n → ⊥) → AreApart (opened_by n q os)
openings-step n None os h new = h
openings-step n (Some q) os h new = apart-push os n h new

openings-apart : (l : List Noted) → AreApart (openings l)
openings-apart [] = tt
openings-apart (x ∷ older) =
    openings-step (length older) (opens_by x.note) (openings older) (openings-apart older)
    (λ h. let below = openings-below older (length older) h in absurd (omega (arith, below)))

numbers-below : (l : List Noted) (n : ℕ) → Contains (map (λ (f : FirstSending). f.number) (firsts l)) n → n < length l
numbers-below l n h =
    let it = contains-mapped (λ (f : FirstSending). f.number) (firsts l) n h in
    subst (λ (n : ℕ). n < length l) it.2 (listed-below l it.0 it.1)

abbrev numbers_of : List FirstSending → List ℕ
numbers_of fs = map (λ (f : FirstSending). f.number) fs

numbers-step : (n t : ℕ) (d : Deed) (note : Note) (old : List FirstSending) → AreApart (numbers_of old) → (Contains (numbers_of old) n → ⊥)
    → AreApart (numbers_of (firsts_by n t d note old))
numbers-step n t (Sends p b w) (First o m) old h new = (new, h)
numbers-step n t (Carries k mark (Sent p b w)) (Bygone m) old h new = (new, h)
numbers-step n t (Carries k mark (Sent p b w)) (First o m) old h new = (new, h)
numbers-step n t d note old h new = h

numbers-apart : (l : List Noted) → AreApart (numbers_of (firsts l))
numbers-apart [] = tt
numbers-apart (x ∷ older) =
    numbers-step (length older) x.written.moment x.written.deed x.note (firsts older) (numbers-apart older)
    (λ h. let below = numbers-below older (length older) h in absurd (omega (arith, below)))

listed-before : (l : List Noted) (k : ℕ) (f : FirstSending) → IsListed (before l k) f → IsListed l f
listed-before l k f (inl h) = inl (first-before l k f.moment f.opening f.number f.peer f.message h)
listed-before l k f (inr h) =
    inr (record {
      old = h.old;
      mark = h.mark;
      bytes = h.bytes;
      timeout = h.timeout;
      note = h.note;
      stands = at-before l k f.number _ h.stands;
      own = h.own;
    })

-- A list that rises by something has each of its members once.
rises-apart : (f : ℕ → ℕ) (os : List ℕ) → RisesBy f os → AreApart os
rises-apart f [] r = tt
rises-apart f (o ∷ os) r =
    (λ h. let lt = all-of (λ (q : ℕ). f o < f q) os o r.0 h in absurd (omega (arith, lt)), rises-apart f os r.1)

goes-is : (p : Peer) (b : Option Begun) → goes_to p b ≡ true → (a : Begun) × (b ≡ Some a) × (a.request.peer ≡ p)
goes-is p None e = absurd (false≢true e)
goes-is p (Some b) e = (b, refl, same_peer-same b.request.peer p e)

module _ (l : List Noted) (k : ℕ) (x : Noted) (legal : Legal l) (here : at l k ≡ Some x) (unsealed : is_sealed (before l k) ≡ false) where
  -- one that is among those that are open
  record Open (o : ℕ) : Type 0 where
    exchange : Begun
    opened : begun (before l k) o ≡ Some exchange
    going : is_going (before l k) o ≡ true

  open-listed : (o : ℕ) → Contains (open_exchanges (before l k)) o → Open o
  open-listed o h =
      let both = filtered-from (is_going (before l k)) (openings (before l k)) o h in
      let b = is-some (begun (before l k) o) (listed-begun (before l k) o both.0) in
      record { exchange = b.0; opened = b.1; going = both.1 }

  open-waiting : (p : Peer) (o : ℕ) → Contains (waiting_at (before l k) p) o → (it : Open o) × (it.exchange.request.peer ≡ p)
  open-waiting p o h =
      let waits = all-of (λ (q : ℕ). is_waiting (before l k) p q ≡ true) (waiting_at (before l k) p) o (waiting-all (before l k) p) h in
      let parts = and_parts (goes_to p (begun (before l k) o)) (is_going (before l k) o && is_none (waits_for (before l k) o)) waits in
      let b = goes-is p (begun (before l k) o) parts.0 in
      let going = and_parts (is_going (before l k) o) (is_none (waits_for (before l k) o)) parts.1 in
      (record { exchange = b.0; opened = b.1; going = going.0 }, b.2)

  now-open : (o : ℕ) (it : Open o) → IsOpen (entries l) k o it.exchange.request
  now-open o it = open-is l k o x legal here unsealed it.going it.exchange it.opened

  unshared-open : (a b : ℕ) (first : Open a) (second : Open b) → a < b → AreUnshared (entries l) a b first.exchange.request second.exchange.request
  unshared-open a b first second lt =
      unshared l k x legal here unsealed a b first.exchange second.exchange first.opened second.opened first.going lt

  many-pending : AreManyPending (entries l) k (length (open_exchanges (before l k))) (λ (q : CoapRequest). ⊤)
  many-pending =
      record {
        asks = record {
          ones = open_exchanges (before l k);
          many = omega arith;
          apart = apart-filtered (is_going (before l k)) (openings (before l k)) (openings-apart (before l k));
          each = λ o h. let it = open-listed o h in (it.exchange.request, tt, now-open o it);
        };
        unshared = λ a b first second lt. unshared-open a b (open-listed a first) (open-listed b second) lt;
      }

  many-waiting : (p : Peer) → AreManyPending (entries l) k (length (waiting_at (before l k) p)) (λ (q : CoapRequest). q.peer ≡ p)
  many-waiting p =
      record {
        asks = record {
          ones = waiting_at (before l k) p;
          many = omega arith;
          apart = rises-apart (submitted (before l k)) (waiting_at (before l k) p) (queue-rises (before l k) p (legal-before l k legal));
          each = λ o h. let it = open-waiting p o h in (it.0.exchange.request, it.1, now-open o it.0);
        };
        unshared = λ a b first second lt. unshared-open a b (open-waiting p a first).0 (open-waiting p b second).0 lt;
      }

  -- with one more, which waits for a reply
  module _ (p : Peer) (o i : ℕ) (it : Open o) (to : it.exchange.request.peer ≡ p) (waits : waits_for (before l k) o ≡ Some i) where
    not-among : Contains (waiting_at (before l k) p) o → ⊥
    not-among h =
        let is = all-of (λ (q : ℕ). is_waiting (before l k) p q ≡ true) (waiting_at (before l k) p) o (waiting-all (before l k) p) h in
        none-some i (sym (waiting-unsent (before l k) p o is) ∙ waits)

    among : (a : ℕ) → Contains (o ∷ waiting_at (before l k) p) a → (w : Open a) × (w.exchange.request.peer ≡ p)
    among a h =
        elim (first-or-later o (waiting_at (before l k) p) a h) [
          | inl e ↦ subst (λ (a : ℕ). (w : Open a) × (w.exchange.request.peer ≡ p)) e (it, to)
          | inr w ↦ open-waiting p a w
        ]

    many-with : AreManyPending (entries l) k (length (waiting_at (before l k) p) + 1) (λ (q : CoapRequest). q.peer ≡ p)
    many-with =
        record {
          asks = record {
            ones = o ∷ waiting_at (before l k) p;
            many = omega arith;
            apart = (not-among, rises-apart (submitted (before l k)) (waiting_at (before l k) p) (queue-rises (before l k) p (legal-before l k legal)));
            each = λ a h. let w = among a h in (w.0.exchange.request, w.1, now-open a w.0);
          };
          unshared = λ a b first second lt. unshared-open a b (among a first).0 (among b second).0 lt;
        }

  many-recent : (t : ℕ) (p : Peer) → AreMany (mids_used (before l k) t p) (IsRecent (entries l) k t p)
  many-recent t p =
      let fs : List FirstSending = firsts (before l k) in
      let count = (length-map (filter (is_recent t p) fs) (λ (f : FirstSending). f.number)) ∙ length-filter (is_recent t p) fs in
      record {
        ones = numbers_of (filter (is_recent t p) fs);
        many = omega (arith, count);
        apart = apart-filter (λ (f : FirstSending). f.number) (is_recent t p) fs (numbers-apart (before l k));
        each = λ i h.
            let it = contains-mapped (λ (f : FirstSending). f.number) (filter (is_recent t p) fs) i h in
            let both = filtered-from (is_recent t p) fs it.0 it.1 in
            let f : FirstSending = it.0 in
            let parts = and_parts (same_peer f.peer p) (nat_lt t (f.moment + MESSAGE_ID_LIFETIME)) both.1 in
            let below = subst (λ (m : ℕ). f.number < m) (length-before l k x here) (listed-below (before l k) f both.0) in
            let first = listed-sent l f legal (listed-before l k f (all-listed (before l k) f both.0)) in
            subst (IsRecent (entries l) k t p) it.2
            (subst (λ (p : Peer). IsRecent (entries l) k t p f.number) (same_peer-same f.peer p parts.0)
            (record { before = below; moment = f.moment; message = f.message; first = first; recent = ltb-true t (f.moment + MESSAGE_ID_LIFETIME) parts.1 }));
      }

least : (n m : ℕ) → nat_lt n m ≡ false → m ≤ n
least n m e = let h = ltb-false n m e in omega (arith, h)

fewer-pending : (h : List Written) (k a b : ℕ) (IsSuch : CoapRequest → Type 0) → a ≤ b → AreManyPending h k b IsSuch → AreManyPending h k a IsSuch
fewer-pending h k a b IsSuch le m =
    let asks = m.asks in
    let many = asks.many in
    record {
      asks = record { ones = asks.ones; many = omega (arith, le, many); apart = asks.apart; each = asks.each };
      unshared = m.unshared;
    }

note-plain : (l : List Noted) (t : ℕ) (s : Sense) (q : CoapRequest) → s ≡ Requests q → AskNote l t s Plain → has_room l t q ≡ false
note-plain l t s q is h = told (subst (λ (s : Sense). AskNote l t s Plain) is h)
  where
    told : AskNote l t (Requests q) Plain → has_room l t q ≡ false
    told none = none.1

pub crowded-at : (l : List Noted) (k s c : ℕ) (a : Ask) (q : CoapRequest) → Legal l → at l k ≡ Some (noted s (Asks c a) Plain) → a.sense ≡ Requests q
    → IsCrowded (entries l) k s q.peer
crowded-at l k s c a q legal here sense =
    let follows : Follows (before l k) s (Asks c a) Plain = follows-at l k _ legal here in
    let none = note-plain (before l k) s a.sense q sense follows.3 in
    let b : List Noted = before l k in
    let x : Noted = noted s (Asks c a) Plain in
    let unsealed = follows.0.0 in
    elim (and_cases (nat_lt (length (open_exchanges b)) MAX_EXCHANGES) _ none) [
      | inl w ↦ exchanges (fewer-pending _ _ _ _ _ (least (length (open_exchanges b)) MAX_EXCHANGES w) (many-pending l k x legal here unsealed))
      | inr w ↦ elim (and_cases (nat_lt (length (waiting_at b q.peer)) MAX_WAITING) _ w) [
        | inl v ↦ waiting (fewer-pending _ _ _ _ _ (least (length (waiting_at b q.peer)) MAX_WAITING v) (many-waiting l k x legal here unsealed q.peer))
        | inr v ↦
            ids (mids_used b s q.peer) (length (waiting_at b q.peer)) (least (mids_used b s q.peer + length (waiting_at b q.peer)) MAX_MESSAGE_IDS v)
            (many-recent l k x legal here unsealed s q.peer) (many-waiting l k x legal here unsealed q.peer)
      ]
    ]

-- There is no place for what an exchange sends next when its reply is heard.
more-left : (n g m : ℕ) → nat_lt (n - g) m ≡ false → m + 1 ≤ n + 1
more-left n g m e = let h = least (n - g) m e in omega (arith, h)

pub full-at : (l : List Noted) (e s o i : ℕ) (p : Peer) (bytes : List ℕ) (note : Note) (b : Begun) → Legal l
    → at l e ≡ Some (noted s (Hears p bytes) note) → begun (before l e) o ≡ Some b → b.request.peer ≡ p → is_going (before l e) o ≡ true
    → waits_for (before l e) o ≡ Some i → has_place (before l e) s p (Some i) ≡ false → IsFull (entries l) e s p
full-at l e s o i p bytes note b legal here opened to going waits none =
    let follows : Follows (before l e) s (Hears p bytes) note = follows-at l e _ legal here in
    let v : List Noted = before l e in
    let x : Noted = noted s (Hears p bytes) note in
    let unsealed = follows.0.0 in
    let own : Open l e x legal here unsealed o = record { exchange = b; opened = opened; going = going } in
    let with_own = many-with l e x legal here unsealed p o i own to waits in
    elim (and_cases (nat_lt (length (waiting_at v p) - let_go v i) MAX_WAITING) _ none) [
      | inl w ↦ queue (fewer-pending _ _ _ _ _ (more-left (length (waiting_at v p)) (let_go v i) MAX_WAITING w) with_own)
      | inr w ↦
          mids (mids_used v s p) (length (waiting_at v p)) (least (mids_used v s p + length (waiting_at v p)) MAX_MESSAGE_IDS w)
          (many-recent l e x legal here unsealed s p) with_own
    ]
