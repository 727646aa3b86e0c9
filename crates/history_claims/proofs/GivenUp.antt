-- A message that is given up was sent five times, and nothing settled it.
use Rattle.std.proofs.Common.{◌≡◌, ℕ, ◌+◌, ◌*◌, ◌^◌, ◌<◌, ◌≤◌, true, eqb, leb, inl, inr, List, [], ◌∷◌, length, Option, Some, None, refl, sym, ap, subst, ◌∙◌, arith, add-one}
use Rattle.std.proofs.lemmas.Bool.Decides.{leb_tells}
use Rattle.std.proofs.lemmas.Bool.{false≢true, and_parts}
use Rattle.limits.specs.declared.TheConstants.{MAX_RETRANSMIT}
use Rattle.coap_codec.specs.Spelling.{Content, Spells}
use Rattle.uri_map.specs.declared.peer.Peer.{Peer}
use Rattle.history_laws.specs.Confirmations.{empty}
use Rattle.history_laws.specs.Exchanges.{waits_for}
use Rattle.coap_codec.specs.declared.message.MsgType.TheVariants.{Ack, Rst}
use Rattle.journal_book.specs.Entries.{Deed, Sends, Hears, Passes}
use Rattle.history_laws.specs.Readings.{Noted, Note, First, Copies, entries, at, before, ticked, noted}
use Rattle.history_laws.specs.Transmissions.{Transmission, due, is_given_up, transmission}
use Rattle.history_laws.specs.Justified.{MayBeFirst, MayBeCopy, Follows, Legal}
use Rattle.history_laws.specs.Laws.{IsFirst}
use Rattle.history_laws.proofs.CallerLemmas.{at-below, at-entries, at-new, at-old, at-same, at-still, eqb-itself, eqb-same, follows-at, legal-before, none-some, some-is, ticked-newest, way-cases}
use Rattle.history_claims.specs.Headline.{IsEntry, IsHeard}
use Rattle.history_claims.specs.Causes.{last_of, AreCopies, IsUnsettled, IsGivenUp}
use Rattle.history_claims.proofs.Entries.{entries-at, entry-keeps, grows}
use Rattle.history_claims.proofs.Settling.{Settles, confirms, rejects, settled}
use Rattle.history_claims.proofs.Waiting.{unanswered-till}

pub copies-keep : (x : Noted) (l : List Noted) (p : Peer) (b : List ℕ) (w i t : ℕ) (js : List ℕ) (last : ℕ) → AreCopies (entries l) p b w i t js last
    → AreCopies (entries (x ∷ l)) p b w i t js last
copies-keep x l p b w i t [] last h = h
copies-keep x l p b w i t (j ∷ js) last h =
    (entry-keeps x l j last (Sends p b None) h.0, h.1, (h.2.0, h.2.1, copies-keep x l p b w i t js h.2.0 h.2.2))

-- how a message that is outstanding went out so far
pub record Went (l : List Noted) (p : Peer) (b : List ℕ) (w i t : ℕ) (y : Transmission) : Type 0 where
  pub copies : List ℕ
  pub many : length copies ≡ y.copies
  pub timeout : y.timeout ≡ w
  pub again : AreCopies (entries l) p b w i t copies y.last
  pub below : last_of i copies < length l

went-keeps : (x : Noted) (l : List Noted) (p : Peer) (b : List ℕ) (w i t : ℕ) (y : Transmission) → Went l p b w i t y → Went (x ∷ l) p b w i t y
went-keeps x l p b w i t y h =
    let below = h.below in
    record {
      copies = h.copies;
      many = h.many;
      timeout = h.timeout;
      again = copies-keep x l p b w i t h.copies y.last h.again;
      below = omega (arith, below);
    }

went-first : (l : List Noted) (t o : ℕ) (p : Peer) (b : List ℕ) (w : ℕ) (m : Content) (y : Transmission)
    → transmission (noted t (Sends p b (Some w)) (First o m) ∷ l) (length l) ≡ Some y
    → Went (noted t (Sends p b (Some w)) (First o m) ∷ l) p b w (length l) t y
went-first l t o p b w m y e =
    let is : record { timeout = w; copies = 0; last = t } ≡ y = some-is _ _ (rw (eqb-itself (length l)) at e) in
    record {
      copies = [];
      many = ap (λ (y : Transmission). y.copies) is;
      timeout = sym (ap (λ (y : Transmission). y.timeout) is);
      again = sym (ap (λ (y : Transmission). y.last) is);
      below = omega arith;
    }

sends-same : (s t : ℕ) (p r : Peer) (b c : List ℕ) (v w : Option ℕ) (u z : Note) → noted s (Sends p b v) u ≡ noted t (Sends r c w) z → (p ≡ r) × (b ≡ c)
sends-same s t p r b c v w u z e = (peers (ap (λ (x : Noted). x.written.deed) e), texts (ap (λ (x : Noted). x.written.deed) e))
  where
    peers : Sends p b v ≡ Sends r c w → p ≡ r
    peers h = cc

    texts : Sends p b v ≡ Sends r c w → b ≡ c
    texts h = cc

-- a copy bears no timeout, and goes to the endpoint of the first sending with its bytes, when the timeout is over
pub record CopyOf (x : Noted) (l : List Noted) (i : ℕ) (p : Peer) (b : List ℕ) (y : Transmission) : Type 0 where
  pub entry : x.written.deed ≡ Sends p b None
  pub late : y.last + y.timeout * 2 ^ y.copies ≤ x.written.moment

pub copy-of : (x : Noted) (l : List Noted) (t o i : ℕ) (p r : Peer) (b c : List ℕ) (w v : Option ℕ) (m : Content) (y : Transmission) → Legal (x ∷ l)
    → at l i ≡ Some (noted t (Sends p b w) (First o m)) → x ≡ noted x.written.moment (Sends r c v) (Copies i) → transmission l i ≡ Some y
    → CopyOf x l i p b y
copy-of x l t o i p r b c w v m y legal first is was =
    let follows : Follows l x.written.moment (Sends r c v) (Copies i) =
    subst (λ (v : Noted). Follows l v.written.moment v.written.deed v.note) is legal.2 in
    let may : MayBeCopy l i r c = follows.1.2 in
    let same = sends-same may.moment t r p c b may.timeout w (First may.opening may.message) (First o m) (at-same l i _ _ may.stands first) in
    let late : due y ≤ ticked l = subst (λ (y : Transmission). due y ≤ ticked l) (some-is _ _ (sym may.is_outstanding ∙ was)) may.is_due in
    let tick = ticked-newest l legal.0 in
    let step = legal.1 in
    record {
      entry = rw (← same.0, ← same.1, ← follows.1.1) (ap (λ (x : Noted). x.written.deed) is);
      late = omega (arith, late, tick, step);
    }

went-again : (x : Noted) (l : List Noted) (i : ℕ) (p : Peer) (b : List ℕ) (w t : ℕ) (y z : Transmission) → CopyOf x l i p b y → Went l p b w i t y
    → record { timeout = y.timeout; copies = y.copies + 1; last = x.written.moment } ≡ z → Went (x ∷ l) p b w i t z
went-again x l i p b w t y z copy h is =
    subst (Went (x ∷ l) p b w i t) is
    (record {
      copies = length l ∷ h.copies;
      many = sym (add-one (length h.copies)) ∙ ap (λ (n : ℕ). n + 1) h.many;
      timeout = h.timeout;
      again = (
        subst (λ (d : Deed). IsEntry (entries (x ∷ l)) (length l) x.written.moment d) copy.entry (at-entries (x ∷ l) (length l) x (at-new x l)),
        h.below,
        (
          y.last,
          rw (h.many, ← h.timeout) copy.late,
          copies-keep x l p b w i t h.copies y.last h.again,
        ),
      );
      below = omega arith;
    })

pub went : (l : List Noted) (t o i : ℕ) (p : Peer) (b : List ℕ) (w : ℕ) (m : Content) (y : Transmission) → Legal l
    → at l i ≡ Some (noted t (Sends p b (Some w)) (First o m)) → transmission l i ≡ Some y → Went l p b w i t y
went [] t o i p b w m y legal first e = absurd cc
went (x ∷ older) t o i p b w m y legal first e =
    elim (at-old x older i _ first) [
      | inl u ↦
          let first_one : Noted = noted t (Sends p b (Some w)) (First o m) in
          let here : transmission (first_one ∷ older) (length older) ≡ Some y =
          subst (λ (x : Noted). transmission (x ∷ older) (length older) ≡ Some y) u.1 (subst (λ (i : ℕ). transmission (x ∷ older) i ≡ Some y) u.0 e) in
          subst (λ (i : ℕ). Went (x ∷ older) p b w i t y) (sym u.0)
          (subst (λ (x : Noted). Went (x ∷ older) p b w (length older) t y) (sym u.1) (went-first older t o p b w m y here))
      | inr u ↦ elim (way-cases x older i y e) [
        | inl v ↦ let below = at-below older i _ u in let here = v.here in absurd (omega (arith, below, here))
        | inr (inl v) ↦
            let copy = copy-of x older t o i p v.peer b v.bytes (Some w) v.timeout m v.way legal u v.entry v.was in
            went-again x older i p b w t v.way y copy (went older t o i p b w m v.way legal.0 u v.was) v.is
        | inr (inr v) ↦ went-keeps x older p b w i t y (went older t o i p b w m y legal.0 u v)
      ]
    ]

-- nothing settled what is outstanding
hears-not : (s t : ℕ) (p r : Peer) (b c : List ℕ) (w : Option ℕ) (u v : Note) → noted s (Hears p b) u ≡ noted t (Sends r c w) v → ⊥
hears-not s t p r b c w u v e = go (ap (λ (x : Noted). x.written.deed) e)
  where
    go : Hears p b ≡ Sends r c w → ⊥
    go f = cc

silence : (l : List Noted) (t o i : ℕ) (p : Peer) (m : Content) (y : Transmission) → Legal l → IsFirst l t o i p m → transmission l i ≡ Some y
    → (j s : ℕ) (b : List ℕ) (note : Note) (n : Content) → i < j → at l j ≡ Some (noted s (Hears p b) note) → Spells n b → Settles n m → ⊥
silence [] t o i p m y legal f e j s b note n lt heard spelled settles = none-some y e
silence (x ∷ older) t o i p m y legal f e j s b note n lt heard spelled settles =
    elim (at-old x older i _ f.stands) [
      | inl u ↦ let place = u.0 in let below = at-below (x ∷ older) j _ heard in absurd (omega (arith, place, below, lt))
      | inr u ↦
          let old : IsFirst older t o i p m = record { bytes = f.bytes; timeout = f.timeout; stands = u } in
          let further : (z : Transmission) → transmission older i ≡ Some z → at older j ≡ Some (noted s (Hears p b) note) → ⊥ =
          λ z g h. silence older t o i p m z legal.0 old g j s b note n lt h spelled settles in
          elim (way-cases x older i y e) [
            | inl v ↦ let below = at-below older i _ u in let here = v.here in absurd (omega (arith, below, here))
            | inr (inl v) ↦ elim (at-old x older j _ heard) [
              | inl h ↦ hears-not s x.written.moment p v.peer b v.bytes v.timeout note (Copies i) (sym h.1 ∙ v.entry)
              | inr h ↦ further v.way v.was h
            ]
            | inr (inr v) ↦ elim (at-old x older j _ heard) [
              | inl h ↦
                  settled older t o i p m y y s b note n legal.0 old v
                  (subst (λ (x : Noted). Follows older x.written.moment x.written.deed x.note) h.1 legal.2) spelled settles
                  (subst (λ (x : Noted). transmission (x ∷ older) i ≡ Some y) h.1 e)
              | inr h ↦ further y v h
            ]
          ]
    ]

-- While it is outstanding and waited for, nothing settled it.
pub unsettled-till : (l : List Noted) (e : ℕ) (x : Noted) (t o i : ℕ) (p : Peer) (m : Content) (y : Transmission) → Legal l → at l e ≡ Some x
    → IsFirst (before l e) t o i p m → transmission (before l e) i ≡ Some y → waits_for (before l e) o ≡ Some i → IsUnsettled (entries l) p i m e
unsettled-till l e x t o i p m y legal here f way waits =
    record {
      unconfirmed = λ j s more less h. none j s more less (empty Ack m.mid) h (confirms refl);
      unrejected = λ j s more less h. none j s more less (empty Rst m.mid) h (rejects refl);
      unanswered = unanswered-till l e x t o i p m legal (legal-before l e legal) here f waits;
    }
  where
    none : (j s : ℕ) → i < j → j < e → (n : Content) → IsHeard (entries l) p j s n → Settles n m → ⊥
    none j s more less n h settles =
        let there = entries-at l j _ h.stands in
        silence (before l e) t o i p m y (legal-before l e legal) f way j s h.bytes there.0 n more (at-still l e j _ _ here less there.1) h.spelled settles

-- the tick that gave it up
pub given-up-at : (l : List Noted) (t o i : ℕ) (p : Peer) (m : Content) (k e s u : ℕ) (note : Note) (y : Transmission) → Legal l
    → IsFirst l t o i p m → k < e → i < e → at l e ≡ Some (noted s Passes note) → transmission (before l e) i ≡ Some y → is_given_up s y ≡ true
    → waits_for (before l e) o ≡ Some i → s ≤ u → IsGivenUp (entries l) k u p i m
given-up-at l t o i p m k e s u note y legal f later lt tick way over waits by =
    let may : MayBeFirst (before l i) t o p f.bytes m f.timeout = (follows-at l i _ legal f.stands).1.1 in
    let stands = subst (λ (w : Option ℕ). at l i ≡ Some (noted t (Sends p f.bytes w) (First o m))) may.first_wait f.stands in
    let early = at-still l e i _ _ tick lt stands in
    let it = went (before l e) t o i p f.bytes may.wait m y (legal-before l e legal) early way in
    let both = and_parts (eqb y.copies MAX_RETRANSMIT) (leb (due y) s) over in
    let all : y.copies ≡ MAX_RETRANSMIT = eqb-same y.copies MAX_RETRANSMIT both.0 in
    let late : due y ≤ s = elim (leb_tells (due y) s) [ inl v ↦ v.1 | inr v ↦ absurd (false≢true (sym v.0 ∙ both.1)) ] in
    let old : IsFirst (before l e) t o i p m = record { bytes = f.bytes; timeout = Some may.wait; stands = early } in
    record {
      moment = t;
      first = record { bytes = f.bytes; timeout = may.wait; stands = at-entries l i _ stands; spelled = may.spelled };
      copies = it.copies;
      last = y.last;
      four = it.many ∙ all;
      again = grows (λ (l : List Noted). AreCopies (entries l) p f.bytes may.wait i t it.copies y.last)
          (λ x l h. copies-keep x l p f.bytes may.wait i t it.copies y.last h) l e it.again;
      tick = e;
      ticked = s;
      after = later;
      passes = at-entries l e _ tick;
      due = subst (λ (w : ℕ). y.last + w * 2 ^ MAX_RETRANSMIT ≤ s) it.timeout (subst (λ (c : ℕ). y.last + y.timeout * 2 ^ c ≤ s) all late);
      by = by;
      silent = unsettled-till l e _ t o i p m y legal tick old way waits;
    }
