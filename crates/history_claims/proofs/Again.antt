-- A message is sent again four times at most, and each time when its timeout is over.
use Rattle.std.proofs.Common.{◌≡◌, ◌⊎◌, ℕ, zero, ◌+◌, ◌*◌, ◌^◌, ◌<◌, ◌≤◌, Bool, true, false, eqb, inl, inr, List, [], ◌∷◌, length, Option, Some, None, refl, sym, ap, subst, ◌∙◌, arith}
use Rattle.std.specs.List.{Contains}
use Rattle.std.proofs.lemmas.Bool.{false≢true}
use Rattle.limits.specs.declared.TheConstants.{MAX_RETRANSMIT}
use Rattle.coap_codec.specs.Spelling.{Content}
use Rattle.coap_codec.proofs.Unique.{spells_one}
use Rattle.uri_map.specs.declared.peer.Peer.{Peer}
use Rattle.journal_book.specs.Entries.{Deed, Sends}
use Rattle.history_laws.specs.Confirmations.{empty}
use Rattle.history_laws.specs.Readings.{Noted, Note, First, Copies, Confirms, entries, at, before, noted}
use Rattle.history_laws.specs.Transmissions.{Transmission, begun_way, copied_way, transmission}
use Rattle.history_laws.specs.Justified.{MayBeFirst, MayBeCopy, Follows, Legal}
use Rattle.history_laws.proofs.CallerLemmas.{at-before, at-below, at-entries, at-new, at-old, contains-later, eqb-itself, eqb-same, firsts-tokens, follows-at, length-before, none-some, some-is, way-cases}
use Rattle.history_claims.specs.Headline.{IsEntry}
use Rattle.history_claims.specs.Causes.{last_of, AreCopies}
use Rattle.history_claims.specs.Order.{IsSentAgain}
use Rattle.history_claims.proofs.Entries.{entries-at}
use Rattle.history_claims.proofs.GivenUp.{copies-keep, CopyOf, copy-of}
use Rattle.history_claims.proofs.Sending.{first-member, sending_of}

-- a copy of the first sending with this number
abbrev copies_it : Deed → Note → ℕ → Bool
copies_it (Sends p b w) (Copies j) i = eqb j i
copies_it d note i = false

record IsCopyOf (x : Noted) (i : ℕ) : Type 0 where
  peer : Peer
  bytes : List ℕ
  timeout : Option ℕ
  is : x ≡ noted x.written.moment (Sends peer bytes timeout) (Copies i)

copy-is : (t : ℕ) (d : Deed) (note : Note) (i : ℕ) → copies_it d note i ≡ true → IsCopyOf (noted t d note) i
copy-is t (Sends p b w) (Copies j) i e =
    record { peer = p; bytes = b; timeout = w; is = ap (λ (j : ℕ). noted t (Sends p b w) (Copies j)) (eqb-same j i e) }
copy-is t d note i e = absurd (false≢true e)

is-copy : (x : Noted) (i s : ℕ) (p : Peer) (b : List ℕ) (w : Option ℕ) → x ≡ noted s (Sends p b w) (Copies i) → copies_it x.written.deed x.note i ≡ true
is-copy x i s p b w e = subst (λ (x : Noted). copies_it x.written.deed x.note i ≡ true) (sym e) (eqb-itself i)

-- how a message was sent again so far
record Again (l : List Noted) (p : Peer) (b : List ℕ) (w i t : ℕ) : Type 0 where
  copies : List ℕ
  last : ℕ
  again : AreCopies (entries l) p b w i t copies last
  below : last_of i copies < length l
  few : length copies ≤ MAX_RETRANSMIT
  all : (j s : ℕ) (r : Peer) (c : List ℕ) (v : Option ℕ) → at l j ≡ Some (noted s (Sends r c v) (Copies i)) → Contains copies j
  on_way : (y : Transmission) → transmission l i ≡ Some y → (length copies ≡ y.copies) × (y.timeout ≡ w) × (y.last ≡ last)

-- a copy comes after what it copies
copy-after : (l : List Noted) (i j s : ℕ) (r : Peer) (c : List ℕ) (v : Option ℕ) → Legal l → at l j ≡ Some (noted s (Sends r c v) (Copies i)) → i < j
copy-after l i j s r c v legal e = by (follows-at l j _ legal e)
  where
    by : Follows (before l j) s (Sends r c v) (Copies i) → i < j
    by f =
        let may : MayBeCopy (before l j) i r c = f.1.2 in
        subst (λ (n : ℕ). i < n) (length-before l j _ e) (at-below (before l j) i _ may.stands)

first-no-copy : (s t o i : ℕ) (p r : Peer) (b c : List ℕ) (w v : Option ℕ) (m : Content) → noted s (Sends p b w) (First o m) ≡ noted t (Sends r c v) (Copies i) → ⊥
first-no-copy s t o i p r b c w v m e = go (ap (λ (x : Noted). x.note) e)
  where
    go : First o m ≡ Copies i → ⊥
    go f = cc

again-first : (l : List Noted) (t o : ℕ) (p : Peer) (b : List ℕ) (w : ℕ) (m : Content) → Legal (noted t (Sends p b (Some w)) (First o m) ∷ l)
    → Again (noted t (Sends p b (Some w)) (First o m) ∷ l) p b w (length l) t
again-first l t o p b w m legal =
    record {
      copies = [];
      last = t;
      again = refl;
      below = omega arith;
      few = omega arith;
      all = λ j s r c v e. none j s r c v e (at-old (noted t (Sends p b (Some w)) (First o m)) l j _ e);
      on_way = λ y e. way y (some-is (begun_way (Some w) t) y (rw (eqb-itself (length l)) at e));
    }
  where
    none : (j s : ℕ) (r : Peer) (c : List ℕ) (v : Option ℕ) → at (noted t (Sends p b (Some w)) (First o m) ∷ l) j ≡ Some (noted s (Sends r c v) (Copies (length l)))
        → ((j ≡ length l) × (noted t (Sends p b (Some w)) (First o m) ≡ noted s (Sends r c v) (Copies (length l)))) ⊎ (at l j ≡ Some (noted s (Sends r c v) (Copies (length l))))
        → Contains [] j
    none j s r c v e (inl u) = absurd (first-no-copy t s o (length l) p r b c (Some w) v m u.1)
    none j s r c v e (inr u) =
        let after = copy-after (noted t (Sends p b (Some w)) (First o m) ∷ l) (length l) j s r c v legal e in
        let below = at-below l j _ u in
        absurd (omega (arith, after, below))

    way : (y : Transmission) → begun_way (Some w) t ≡ y → (0 ≡ y.copies) × (y.timeout ≡ w) × (y.last ≡ t)
    way y is =
        (ap (λ (y : Transmission). y.copies) is, sym (ap (λ (y : Transmission). y.timeout) is), sym (ap (λ (y : Transmission). y.last) is))

again-keeps : (x : Noted) (l : List Noted) (p : Peer) (b : List ℕ) (w i t : ℕ) → i < length l → copies_it x.written.deed x.note i ≡ false
    → Again l p b w i t → Again (x ∷ l) p b w i t
again-keeps x l p b w i t lt other h =
    let below = h.below in
    record {
      copies = h.copies;
      last = h.last;
      again = copies-keep x l p b w i t h.copies h.last h.again;
      below = omega (arith, below);
      few = h.few;
      all = λ j s r c v e. elim (at-old x l j _ e) [
        | inl u ↦ absurd (false≢true (sym other ∙ is-copy x i s r c v u.1))
        | inr u ↦ h.all j s r c v u
      ];
      on_way = λ y e. elim (way-cases x l i y e) [
        | inl v ↦ let here = v.here in absurd (omega (arith, lt, here))
        | inr (inl v) ↦ absurd (false≢true (sym other ∙ is-copy x i x.written.moment v.peer v.bytes v.timeout v.entry))
        | inr (inr v) ↦ h.on_way y v
      ];
    }

late-so : (n c v w a b m : ℕ) → n ≡ c → v ≡ w → a ≡ b → a + v * 2 ^ c ≤ m → b + w * 2 ^ n ≤ m
late-so n c v w a b m many timeout last late =
    subst (λ (b : ℕ). b + w * 2 ^ n ≤ m) last
    (subst (λ (w : ℕ). a + w * 2 ^ n ≤ m) timeout (subst (λ (c : ℕ). a + v * 2 ^ c ≤ m) (sym many) late))

module _ (x : Noted) (l : List Noted) (o : ℕ) (p : Peer) (b : List ℕ) (w i t : ℕ) (m : Content) (legal : Legal (x ∷ l))
    (first : at l i ≡ Some (noted t (Sends p b (Some w)) (First o m))) (it : IsCopyOf x i) (h : Again l p b w i t) where
  may : MayBeCopy l i it.peer it.bytes
  may = by (subst (λ (v : Noted). Follows l v.written.moment v.written.deed v.note) it.is legal.2)
    where
      by : Follows l x.written.moment (Sends it.peer it.bytes it.timeout) (Copies i) → MayBeCopy l i it.peer it.bytes
      by f = f.1.2

  so : (length h.copies ≡ may.way.copies) × (may.way.timeout ≡ w) × (may.way.last ≡ h.last)
  so = h.on_way may.way may.is_outstanding

  copy : CopyOf x l i p b may.way
  copy = copy-of x l t o i p it.peer b it.bytes (Some w) it.timeout m may.way legal first it.is may.is_outstanding

  way-now : (y : Transmission) → transmission (x ∷ l) i ≡ Some y → copied_way x.written.moment may.way ≡ y
  way-now y e =
      some-is _ y (rw (eqb-itself i, may.is_outstanding) at (subst (λ (v : Noted). transmission (v ∷ l) i ≡ Some y) it.is e))

  again-more : Again (x ∷ l) p b w i t
  again-more =
      let few = may.few in
      let many = so.0 in
      record {
        copies = length l ∷ h.copies;
        last = x.written.moment;
        again = (
          subst (λ (d : Deed). IsEntry (entries (x ∷ l)) (length l) x.written.moment d) copy.entry (at-entries (x ∷ l) (length l) x (at-new x l)),
          h.below,
          (
            h.last,
            late-so (length h.copies) may.way.copies may.way.timeout w may.way.last h.last x.written.moment many so.1 so.2 copy.late,
            copies-keep x l p b w i t h.copies h.last h.again,
          ),
        );
        below = omega arith;
        few = omega (arith, few, many);
        all = λ j s r c v e. elim (at-old x l j _ e) [
          | inl u ↦ subst (Contains (length l ∷ h.copies)) (sym u.0) (zero, omega arith, refl)
          | inr u ↦ contains-later (length l) h.copies j (h.all j s r c v u)
        ];
        on_way = λ y e.
            let is = way-now y e in (
              omega (arith, many, ap (λ (y : Transmission). y.copies) is),
              sym (ap (λ (y : Transmission). y.timeout) is) ∙ so.1,
              sym (ap (λ (y : Transmission). y.last) is),
            );
      }

again : (l : List Noted) (o : ℕ) (p : Peer) (b : List ℕ) (w i t : ℕ) (m : Content) → Legal l → at l i ≡ Some (noted t (Sends p b (Some w)) (First o m))
    → Again l p b w i t
again [] o p b w i t m legal e = absurd (none-some _ e)
again (x ∷ older) o p b w i t m legal e =
    elim (at-old x older i _ e) [
      | inl u ↦
          subst (λ (i : ℕ). Again (x ∷ older) p b w i t) (sym u.0)
          (subst (λ (v : Noted). Again (v ∷ older) p b w (length older) t) (sym u.1)
          (again-first older t o p b w m (subst (λ (v : Noted). Legal (v ∷ older)) u.1 legal)))
      | inr u ↦ go (copies_it x.written.deed x.note i) refl (at-below older i _ u) u (again older o p b w i t m legal.0 u)
    ]
  where
    go : (c : Bool) → copies_it x.written.deed x.note i ≡ c → i < length older → at older i ≡ Some (noted t (Sends p b (Some w)) (First o m))
        → Again older p b w i t → Again (x ∷ older) p b w i t
    go true is lt first h = again-more x older o p b w i t m legal first (copy-is x.written.moment x.written.deed x.note i is) h
    go false is lt first h = again-keeps x older p b w i t lt is h

-- Equal bytes are sent again for one message.
same-first : (l : List Noted) (s t o q i j : ℕ) (p r : Peer) (b : List ℕ) (v w : Option ℕ) (m n : Content) → Legal l
    → at l i ≡ Some (noted s (Sends p b v) (First o m)) → at l j ≡ Some (noted t (Sends r b w) (First q n)) → i ≡ j
same-first l s t o q i j p r b v w m n legal f g =
    let a : MayBeFirst (before l i) s o p b m v = (follows-at l i _ legal f).1.1 in
    let c : MayBeFirst (before l j) t q r b n w = (follows-at l j _ legal g).1.1 in
    let same = spells_one m n b a.spelled c.spelled in
    firsts-tokens l (sending_of i s o p m) (sending_of j t q r n) legal
    (first-member l s o i p m (record { bytes = b; timeout = v; stands = f }))
    (first-member l t q j r n (record { bytes = b; timeout = w; stands = g }))
    (ap (λ (m : Content). m.token) same)

pub sent-again : (l : List Noted) → Legal l → (i t w : ℕ) (p : Peer) (b : List ℕ) → IsEntry (entries l) i t (Sends p b (Some w))
    → IsSentAgain (entries l) p b w i t
sent-again l legal i t w p b e =
    let there = entries-at l i _ e in
    go there.0 there.1 (follows-at l i _ legal there.1)
  where
    none-else : (o : ℕ) (m : Content) → at l i ≡ Some (noted t (Sends p b (Some w)) (First o m)) → (h : Again l p b w i t) → (j s : ℕ) (note : Note)
        → at l j ≡ Some (noted s (Sends p b None) note) → Follows (before l j) s (Sends p b None) note → Contains h.copies j
    none-else o m first h j s (First q n) e f = let may : MayBeFirst (before l j) s q p b n None = f.1.1 in absurd (none-some _ may.first_wait)
    none-else o m first h j s (Copies k) e f =
        let may : MayBeCopy (before l j) k p b = f.1.2 in
        let same : k ≡ i = same-first l may.moment t may.opening o k i p p b may.timeout (Some w) may.message m legal (at-before l j k _ may.stands) first in
        h.all j s p b None (subst (λ (k : ℕ). at l j ≡ Some (noted s (Sends p b None) (Copies k))) same e)
    none-else o m first h j s Confirms e f =
        let may : MayBeFirst (before l i) t o p b m (Some w) = (follows-at l i _ legal first).1.1 in
        let confirmation = f.1.1 in
        let same = spells_one m (empty confirmation.confirmation.kind confirmation.confirmation.mid) b may.spelled confirmation.spelled in
        let eight = may.token_size in
        let short : length m.token ≡ 0 = ap (λ (m : Content). length m.token) same in
        absurd (omega (arith, eight, short))
    none-else o m first h j s note e f = absurd f.1

    go : (note : Note) → at l i ≡ Some (noted t (Sends p b (Some w)) note) → Follows (before l i) t (Sends p b (Some w)) note → IsSentAgain (entries l) p b w i t
    go (First o m) stands f =
        let h = again l o p b w i t m legal stands in
        record {
          again = h.copies;
          last = h.last;
          few = h.few;
          due = h.again;
          all = λ j s e.
              let there = entries-at l j _ e in
              none-else o m stands h j s there.0 there.1 (follows-at l j _ legal there.1);
        }
    go (Copies k) stands f = absurd (none-some w (sym f.1.1))
    go Confirms stands f = absurd (none-some w (sym f.1.0))
    go note stands f = absurd f.1
