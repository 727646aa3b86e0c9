-- A message goes out to an endpoint once the one before it is over.
use Rattle.std.proofs.Common.{◌≡◌, ℕ, ◌+◌, ◌*◌, ◌^◌, ◌<◌, ◌≤◌, Bool, true, false, cond, eqb, leb, inl, inr, List, [], ◌∷◌, length, Option, Some, None, refl, sym, ap, subst, ◌∙◌, arith}
use Rattle.std.specs.Prelude.{find}
use Rattle.std.proofs.lemmas.Bool.Decides.{eqb_tells, leb_tells}
use Rattle.std.proofs.lemmas.Bool.{false≢true, and_parts}
use Rattle.limits.specs.declared.TheConstants.{MAX_RETRANSMIT}
use Rattle.coap_codec.specs.declared.message.MsgType.{MsgType}
use Rattle.coap_codec.specs.declared.message.MsgType.TheVariants.{Con, Non, Ack, Rst}
use Rattle.coap_codec.specs.Spelling.{Content, Spells}
use Rattle.uri_map.specs.declared.peer.Peer.{Peer}
use Rattle.journal_book.specs.Entries.{Deed, Sends, Hears, Passes}
use Rattle.history_laws.specs.Confirmations.{empty}
use Rattle.history_laws.specs.Hearing.{IsReplyKind, is_as, open_at, answers_by, answers}
use Rattle.history_laws.specs.Readings.{Noted, Note, First, Copies, Says, Notice, entries, at, before, noted}
use Rattle.history_laws.specs.Transmissions.{FirstSending, Transmission, due, is_given_up, begun_way, copied_way, transmission_by, transmission, outstanding}
use Rattle.history_laws.specs.Justified.{MayBeFirst, MaySay, Follows, Legal}
use Rattle.history_laws.specs.Laws.{IsFirst}
use Rattle.history_laws.proofs.CallerLemmas.{at-below, at-entries, at-new, at-old, at-still, eqb-itself, eqb-same, find-some, first-is, follows-at, found, legal-before, length-before, none-some, NotRst, outstanding-last}
use Rattle.history_claims.specs.Headline.{IsFirstSending, IsHeard}
use Rattle.history_claims.specs.Order.{IsOver, confirmed, rejected, answered, given_up}
use Rattle.history_claims.proofs.Ending.{as-first, empty-parts}
use Rattle.history_claims.proofs.Entries.{entry-keeps, grows}
use Rattle.history_claims.proofs.GivenUp.{copies-keep, went}
use Rattle.history_claims.proofs.Repeats.{heard-entry}
use Rattle.history_claims.proofs.Sending.{first-of}
use Rattle.history_claims.proofs.Waiting.{brings}

-- What is over stays so.
heard-keeps : (x : Noted) (l : List Noted) (p : Peer) (j t : ℕ) (m : Content) → IsHeard (entries l) p j t m → IsHeard (entries (x ∷ l)) p j t m
heard-keeps x l p j t m h = record { bytes = h.bytes; stands = entry-keeps x l j t _ h.stands; spelled = h.spelled }

over-keeps : (x : Noted) (l : List Noted) (p : Peer) (i : ℕ) (m : Content) (n k : ℕ) → n ≤ k → IsOver (entries l) p i m n → IsOver (entries (x ∷ l)) p i m k
over-keeps x l p i m n k le (confirmed j t after lt h) = confirmed j t after (omega (arith, lt, le)) (heard-keeps x l p j t _ h)
over-keeps x l p i m n k le (rejected j t after lt h) = rejected j t after (omega (arith, lt, le)) (heard-keeps x l p j t _ h)
over-keeps x l p i m n k le (answered j r lt h) =
    answered j r (omega (arith, lt, le))
    (record {
      after = h.after;
      moment = h.moment;
      heard = heard-keeps x l p j h.moment r h.heard;
      response = h.response;
      token = h.token;
      kind = h.kind;
    })
over-keeps x l p i m n k le (given_up h) =
    let lt = h.before in
    given_up (record {
      moment = h.moment;
      first = record { bytes = h.first.bytes; timeout = h.first.timeout; stands = entry-keeps x l i h.moment _ h.first.stands; spelled = h.first.spelled };
      again = h.again;
      last = h.last;
      four = h.four;
      due = copies-keep x l p h.first.bytes h.first.timeout i h.moment h.again h.last h.due;
      tick = h.tick;
      ticked = h.ticked;
      before = omega (arith, lt, le);
      passes = entry-keeps x l h.tick h.ticked Passes h.passes;
      over = h.over;
    })

says-to : (m : Content) (i j : Option ℕ) (u v : Notice) → Says m i u ≡ Says m j v → i ≡ j
says-to m i j u v e = cc

-- what ends the sending of a message, heard in the newest entry
module _ (l : List Noted) (t o i : ℕ) (p : Peer) (m : Content) (legal : Legal l) (f : IsFirst l t o i p m)
    (s : ℕ) (r : Peer) (b : List ℕ) (n : Content) (notice : Notice) (may : MaySay l s r b (Says n (Some i) notice) n) where
  abbrev here : Noted
  here = noted s (Hears r b) (Says n (Some i) notice)

  abbrev Over : Type 0
  Over = IsOver (entries (here ∷ l)) p i m (length l + 1)

  below : i < length l
  below = at-below l i _ f.stands

  heard-by : r ≡ p → (k : Content) → n ≡ k → IsHeard (entries (here ∷ l)) p (length l) s k
  heard-by peer k is =
      subst (λ (p : Peer). IsHeard (entries (here ∷ l)) p (length l) s k) peer
      (heard-entry (here ∷ l) r (length l) s b k (Says n (Some i) notice) (at-new here l) (subst (λ (k : Content). Spells k b) is may.spelled))

  found-to : answers l r n ≡ Some i
  found-to = sym (says-to n (Some i) _ _ _ may.says)

  by-response : leb 32 n.code ≡ true → NotRst n.kind → Over
  by-response e not =
      let it = found l r n i e not found-to in
      let is = first-is l t o i p m it.first f it.is in
      let peer : r ≡ p = sym it.peer ∙ ap (λ (f : FirstSending). f.peer) is in
      answered (length l) n (omega arith)
      (record {
        after = below;
        moment = s;
        heard = heard-by peer n refl;
        response = least;
        token = sym it.token ∙ ap (λ (f : FirstSending). f.message.token) is;
        kind = brings n.kind n.mid m.mid (subst (λ (f : FirstSending). IsReplyKind n.kind n.mid f.message.mid) is it.kind);
      })
    where
      least : 32 ≤ n.code
      least = elim (leb_tells 32 n.code) [ inl u ↦ u.1 | inr u ↦ absurd (false≢true (sym u.0 ∙ e)) ]

  -- by its ID: an empty ACK or RST
  empty-as : (k : MsgType) → n.kind ≡ k → eqb n.code 0 ≡ true → find (is_as l r n) (open_at l r) ≡ Some i → (r ≡ p) × (n ≡ empty k m.mid)
  empty-as k kind vain e =
      let it = as-first l r n i (find-some (is_as l r n) (open_at l r) i e).1 in
      let is = first-is l t o i p m it.0 f it.1 in
      let none = may.spelled.nothing_else (eqb-same n.code 0 vain) in
      let all : n ≡ empty k n.mid = empty-parts n k 0 [] [] [] kind (eqb-same n.code 0 vain) none.0 none.1 none.2 in
      let mid : n.mid ≡ m.mid = sym it.3 ∙ ap (λ (f : FirstSending). f.message.mid) is in (
        sym it.2 ∙ ap (λ (f : FirstSending). f.peer) is,
        all ∙ ap (empty k) mid,
      )

  said-over : Over
  said-over = go n.kind refl (eqb n.code 0) refl (leb 32 n.code) refl found-to
    where
      go : (k : MsgType) → n.kind ≡ k → (vain : Bool) → eqb n.code 0 ≡ vain → (response : Bool) → leb 32 n.code ≡ response
          → answers_by l r n k vain response ≡ Some i → Over
      go Con kind vain v true e h = by-response e (subst NotRst (sym kind) tt)
      go Non kind vain v true e h = by-response e (subst NotRst (sym kind) tt)
      go Ack kind vain v true e h = by-response e (subst NotRst (sym kind) tt)
      go Ack kind true v false e h = let it = empty-as Ack kind v h in confirmed (length l) s below (omega arith) (heard-by it.0 (empty Ack m.mid) it.1)
      go Rst kind true v response e h = let it = empty-as Rst kind v h in rejected (length l) s below (omega arith) (heard-by it.0 (empty Rst m.mid) it.1)
      go Con kind vain v false e h = absurd (none-some i h)
      go Non kind vain v false e h = absurd (none-some i h)
      go Ack kind false v false e h = absurd (none-some i h)
      go Rst kind false v true e h = absurd (none-some i h)
      go Rst kind false v false e h = absurd (none-some i h)

-- An entry by which a message is no longer outstanding ends its sending.
module _ (l : List Noted) (t o i : ℕ) (p : Peer) (b : List ℕ) (w : ℕ) (m : Content) (y : Transmission) (legal : Legal l)
    (first : at l i ≡ Some (noted t (Sends p b (Some w)) (First o m))) (was : transmission l i ≡ Some y) where
  f : IsFirst l t o i p m
  f = record { bytes = b; timeout = Some w; stands = first }

  left-over : (s : ℕ) (note : Note) → is_given_up s y ≡ true → IsOver (entries (noted s Passes note ∷ l)) p i m (length l + 1)
  left-over s note over =
      let x : Noted = noted s Passes note in
      let it = went l t o i p b w m y legal first was in
      let both = and_parts (eqb y.copies MAX_RETRANSMIT) (leb (due y) s) over in
      let all : y.copies ≡ MAX_RETRANSMIT = eqb-same y.copies MAX_RETRANSMIT both.0 in
      let late : due y ≤ s = elim (leb_tells (due y) s) [ inl v ↦ v.1 | inr v ↦ absurd (false≢true (sym v.0 ∙ both.1)) ] in
      let may : MayBeFirst (before l i) t o p b m (Some w) = (follows-at l i _ legal first).1.1 in
      given_up (record {
        moment = t;
        first = record { bytes = b; timeout = w; stands = entry-keeps x l i t _ (at-entries l i _ first); spelled = may.spelled };
        again = it.copies;
        last = y.last;
        four = it.many ∙ all;
        due = copies-keep x l p b w i t it.copies y.last it.again;
        tick = length l;
        ticked = s;
        before = omega arith;
        passes = at-entries (x ∷ l) (length l) x (at-new x l);
        over = subst (λ (v : ℕ). y.last + v * 2 ^ MAX_RETRANSMIT ≤ s) it.timeout (subst (λ (c : ℕ). y.last + y.timeout * 2 ^ c ≤ s) all late);
      })

  not-none : (x : Noted) → Some y ≡ None → IsOver (entries (x ∷ l)) p i m (length l + 1)
  not-none x e = absurd (none-some y (sym e))

  over-by : (s : ℕ) (d : Deed) (note : Note) → Follows l s d note → transmission_by i (length l) s d note (Some y) ≡ None
      → IsOver (entries (noted s d note ∷ l)) p i m (length l + 1)
  over-by s (Sends r c v) (First q n) may e =
      elim (eqb_tells (length l) i) [
        | inl u ↦ let same = u.1 in let below = at-below l i _ first in absurd (omega (arith, same, below))
        | inr u ↦ not-none (noted s (Sends r c v) (First q n)) (rw (u.0) at e)
      ]
  over-by s (Sends r c v) (Copies j) may e =
      elim (eqb_tells j i) [
        | inl u ↦ absurd (none-some (copied_way s y) (sym (rw (u.0) at e)))
        | inr u ↦ not-none (noted s (Sends r c v) (Copies j)) (rw (u.0) at e)
      ]
  over-by s (Hears r c) (Says n (Some j) notice) may e =
      elim (eqb_tells j i) [
        | inl u ↦ here-over (subst (λ (j : ℕ). MaySay l s r c (Says n (Some j) notice) n) u.1 may.3) u.1
        | inr u ↦ not-none (noted s (Hears r c) (Says n (Some j) notice)) (rw (u.0) at e)
      ]
    where
      here-over : MaySay l s r c (Says n (Some i) notice) n → j ≡ i → IsOver (entries (noted s (Hears r c) (Says n (Some j) notice) ∷ l)) p i m (length l + 1)
      here-over may same =
          subst (λ (j : ℕ). IsOver (entries (noted s (Hears r c) (Says n (Some j) notice) ∷ l)) p i m (length l + 1)) (sym same)
          (said-over l t o i p m legal f s r c n notice may)
  over-by s Passes note may e = go (is_given_up s y) refl e
    where
      go : (g : Bool) → is_given_up s y ≡ g → cond g None (Some y) ≡ None → IsOver (entries (noted s Passes note ∷ l)) p i m (length l + 1)
      go true is h = left-over s note is
      go false is h = not-none (noted s Passes note) h
  over-by s d note may e = not-none (noted s d note) e

over-in : (l : List Noted) (t o i : ℕ) (p : Peer) (b : List ℕ) (w : ℕ) (m : Content) → Legal l
    → at l i ≡ Some (noted t (Sends p b (Some w)) (First o m)) → transmission l i ≡ None → IsOver (entries l) p i m (length l)
over-in [] t o i p b w m legal first e = absurd (none-some _ first)
over-in (x ∷ older) t o i p b w m legal first e =
    elim (at-old x older i _ first) [
      | inl u ↦
          let one : Noted = noted t (Sends p b (Some w)) (First o m) in
          let now : transmission (one ∷ older) (length older) ≡ None =
          subst (λ (x : Noted). transmission (x ∷ older) (length older) ≡ None) u.1 (subst (λ (i : ℕ). transmission (x ∷ older) i ≡ None) u.0 e) in
          absurd (none-some (begun_way (Some w) t) (sym (rw (eqb-itself (length older)) at now)))
      | inr u ↦ go (transmission older i) refl u (λ none. over-in older t o i p b w m legal.0 u none)
    ]
  where
    go : (y : Option Transmission) → transmission older i ≡ y → at older i ≡ Some (noted t (Sends p b (Some w)) (First o m))
        → (transmission older i ≡ None → IsOver (entries older) p i m (length older)) → IsOver (entries (x ∷ older)) p i m (length (x ∷ older))
    go None is u ih = over-keeps x older p i m (length older) (length (x ∷ older)) (omega arith) (ih is)
    go (Some y) is u ih =
        subst (λ (n : ℕ). IsOver (entries (x ∷ older)) p i m n) (omega arith)
        (over-by older t o i p b w m y legal.0 u is x.written.moment x.written.deed x.note legal.2
        (subst (λ (v : Option Transmission). transmission_by i (length older) x.written.moment x.written.deed x.note v ≡ None) is e))

-- Nothing is outstanding at an endpoint to which a message goes out for the first time.
free-none : (l : List Noted) (t o i : ℕ) (p : Peer) (m : Content) → Legal l → IsFirst l t o i p m → outstanding l p ≡ None → transmission l i ≡ None
free-none l t o i p m legal f free = go (transmission l i) refl
  where
    go : (y : Option Transmission) → transmission l i ≡ y → transmission l i ≡ None
    go None is = is
    go (Some y) is =
        let last = outstanding-last l t o i p m y legal f is in
        let g : FirstSending = last.0 in
        let on_way : transmission l g.number ≡ Some y = subst (λ (i : ℕ). transmission l i ≡ Some y) (sym last.2) is in
        let found : outstanding l p ≡ Some g = rw (last.1, on_way) refl in
        absurd (none-some g (sym free ∙ found))

pub in-turn : (l : List Noted) → Legal l → (i j s t : ℕ) (p : Peer) (m n : Content) → IsFirstSending (entries l) i s p m
    → IsFirstSending (entries l) j t p n → i < j → IsOver (entries l) p i m j
in-turn l legal i j s t p m n f g lt =
    let a = first-of l i s p m legal f in
    let c = first-of l j t p n legal g in
    let may : MayBeFirst (before l j) t c.0 p c.1.bytes n c.1.timeout = (follows-at l j _ legal c.1.stands).1.1 in
    let first : MayBeFirst (before l i) s a.0 p a.1.bytes m a.1.timeout = (follows-at l i _ legal a.1.stands).1.1 in
    let stands = subst (λ (w : Option ℕ). at l i ≡ Some (noted s (Sends p a.1.bytes w) (First a.0 m))) first.first_wait a.1.stands in
    let then_first = at-still l j i _ _ c.1.stands lt stands in
    let early = legal-before l j legal in
    let none = free-none (before l j) s a.0 i p m early (record { bytes = a.1.bytes; timeout = Some first.wait; stands = then_first }) may.free in
    let over = over-in (before l j) s a.0 i p a.1.bytes first.wait m early then_first none in
    grows (λ (v : List Noted). IsOver (entries v) p i m j) (λ x v h. over-keeps x v p i m j j (omega arith) h) l j
    (subst (IsOver (entries (before l j)) p i m) (length-before l j _ c.1.stands) over)
