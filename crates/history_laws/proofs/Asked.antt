-- Each ask opens one exchange, joins one, is served, or does none of these, and each sending is for an ask or for a datagram.
use Rattle.std.proofs.Common.{◌≡◌, ℕ, ◌<◌, ◌⊎◌, inl, inr, List, true, Option, Some, None, arith, refl, sym, ap, subst, ◌∙◌}
use Rattle.coap_codec.specs.Spelling.{Content}
use Rattle.uri_map.specs.declared.peer.Peer.{Peer}
use Rattle.resp_cache.specs.Stored.{Stored, is_fresh}
use Rattle.ask_model.specs.Requests.{CoapRequest, Sense, Requests, Refuses}
use Rattle.ask_model.specs.Views.{Ask}
use Rattle.ask_model.specs.declared.cause.Cause.{Cause}
use Rattle.ask_model.specs.declared.cause.Cause.TheVariants.{BadHttp, NoMap, Method, Media, Busy, Timeout, Reset, NotUnderstood}
use Rattle.journal_book.specs.Entries.{Grounds, Live, Kept, Fault, Deed, Asks, Sends, Hears}
use Rattle.history_laws.specs.Readings.{Noted, Note, Plain, Begins, Renews, Joins, Serves, First, Copies, Confirms, at, before, noted}
use Rattle.history_laws.specs.Exchanges.{Begun, begun, opens_by}
use Rattle.history_laws.specs.Joining.{joins}
use Rattle.history_laws.specs.Hearing.{has_room}
use Rattle.history_laws.specs.Storing.{IsStored}
use Rattle.history_laws.specs.Justified.{IsAsk, reads_by, reads_in, reads, IsTurnedAway, IsRefused, Caused, HasGrounds, AskNote, MayBeCopy, MayConfirm, Follows, Legal, UnservedNote, MissNote}
use Rattle.history_laws.specs.Laws.{IsFirst, IsAnswer, OpensOne, JoinsOne, ServesOne, OpensNone, OpensFor, IsAskSent, IsConfirmation}
use Rattle.history_laws.proofs.Basis.{grounds-of}
use Rattle.history_laws.proofs.Places.{at-below, at-same}
use Rattle.history_laws.proofs.Facts.{follows-at, at-before, length-before}
use Rattle.history_laws.proofs.Begun.{ask-behind}
use Rattle.history_laws.proofs.Sent.{begun-before, begun-below, begun-opening, opens-begun, next-is, sent-for, sent-once}
use Rattle.history_laws.proofs.Joining.{joins-is}
use Rattle.history_laws.proofs.Resting.{none-some}
use Rattle.history_laws.proofs.Confirmed.{owed-to}

-- An ask without an exchange is answered for one cause only.
abbrev own_cause : Sense → Cause
own_cause (Requests q) = Busy
own_cause (Refuses cause status) = cause

ask-same : (m s c d : ℕ) (a b : Ask) (u v : Note) → noted m (Asks c a) u ≡ noted s (Asks d b) v → a ≡ b
ask-same m s c d a b u v e = asks (ap (λ (x : Noted). x.written.deed) e)
  where
    asks : Asks c a ≡ Asks d b → a ≡ b
    asks f = cc

-- an entry that opens no exchange, for which nothing is sent
unopened-at : (l : List Noted) (k m : ℕ) (d : Deed) (note : Note) → at l k ≡ Some (noted m d note) → opens_by note ≡ None → begun l k ≡ None
unopened-at l k m d note stands none = by (begun l k) refl
  where
    by : (b : Option Begun) → begun l k ≡ b → b ≡ None
    by None e = refl
    by (Some b) e =
        let h = begun-opening l k b e in
        absurd (none-some b.request (sym none ∙ (ap (λ (x : Noted). opens_by x.note) (at-same l k _ _ stands h.2) ∙ h.3)))

unsent-at : (l : List Noted) (k m : ℕ) (d : Deed) (note : Note) → at l k ≡ Some (noted m d note) → opens_by note ≡ None → Legal l
    → (t i : ℕ) (p : Peer) (s : Content) → IsFirst l t k i p s → ⊥
unsent-at l k m d note stands none legal t i p s f =
    none-some _ (sym (unopened-at l k m d note stands none) ∙ (sent-for l t k i p s legal f).opened)

-- it reads no exchange
reads-none : (l : List Noted) (k m : ℕ) (d : Deed) (note : Note) → at l k ≡ Some (noted m d note) → reads_by k note ≡ None
    → (n o : ℕ) → reads (before l n) k ≡ Some o → ⊥
reads-none l k m d note stands quiet n o r = go (at (before l n) k) refl r
  where
    none : None ≡ Some o → ⊥
    none e = cc

    go : (x : Option Noted) → at (before l n) k ≡ x → reads_in k x ≡ Some o → ⊥
    go None is e = none e
    go (Some x) is e =
        none (sym quiet ∙ subst (λ (v : Noted). reads_by k v.note ≡ Some o) (at-same l k x (noted m d note) (at-before l n k x is) stands) e)

-- An answer has its grounds.
grounds-at : (l : List Noted) (n d k : ℕ) (g : Grounds) → Legal l → (h : IsAnswer l n d k g) → HasGrounds (before l n) h.moment k g
grounds-at l n d k g legal h = grounds-of (before l n) h.moment d k g h.note (follows-at l n _ legal h.stands)

module _ (l : List Noted) (k c m : ℕ) (a : Ask) (stands : at l k ≡ Some (noted m (Asks c a) Plain)) where
  reads-no : (n o : ℕ) → reads (before l n) k ≡ Some o → ⊥
  reads-no n o r = reads-none l k m (Asks c a) Plain stands refl n o r

  that-ask : (n d s : ℕ) (b : Ask) (u : Note) → at (before l n) k ≡ Some (noted s (Asks d b) u) → b ≡ a
  that-ask n d s b u h = ask-same s m d c b a u Plain (at-same l k _ _ (at-before l n k _ h) stands)

  own-turned : (n j : ℕ) → j ≡ k → IsTurnedAway (before l n) k → (Busy ≡ own_cause a.sense) × (j ≡ k)
  own-turned n j e h =
      (sym (ap own_cause h.sense) ∙ ap (λ (v : Ask). own_cause v.sense) (that-ask n h.conn h.moment h.ask Plain h.stands), e)

  own-refusal : (n j : ℕ) (cause : Cause) → j ≡ k → IsRefused (before l n) k cause → (cause ≡ own_cause a.sense) × (j ≡ k)
  own-refusal n j cause e h =
      (sym (ap own_cause h.sense) ∙ ap (λ (v : Ask). own_cause v.sense) (that-ask n h.conn h.asked.moment h.ask h.asked.note h.asked.stands), e)

  own-caused : (n t j : ℕ) (cause : Cause) → Caused (before l n) t k cause j → (cause ≡ own_cause a.sense) × (j ≡ k)
  own-caused n t j Busy h = elim h.1 [ inl away ↦ own-turned n j h.0 away | inr turned ↦ absurd (reads-no n turned.0 turned.2) ]
  own-caused n t j Timeout h = absurd (reads-no n h.0 h.1)
  own-caused n t j Reset h = absurd (reads-no n h.0 h.1)
  own-caused n t j NotUnderstood h = absurd (reads-no n h.0 h.1)
  own-caused n t j BadHttp h = own-refusal n j BadHttp h.1 h.2
  own-caused n t j NoMap h = own-refusal n j NoMap h.1 h.2
  own-caused n t j Method h = own-refusal n j Method h.1 h.2
  own-caused n t j Media h = own-refusal n j Media h.1 h.2

  own-kept : (n t : ℕ) (js : List ℕ) → HasGrounds (before l n) t k (Kept js) → ⊥
  own-kept n t js h = unserved (ap (λ (x : Noted). x.note) (at-same l k _ _ (at-before l n k _ h.2) stands))
    where
      unserved : Serves js ≡ Plain → ⊥
      unserved e = cc

  own-grounds : (n t : ℕ) (g : Grounds) → HasGrounds (before l n) t k g → g ≡ Fault (own_cause a.sense) k
  own-grounds n t (Live js) (inl h) = absurd (reads-no n h.0 h.4)
  own-grounds n t (Live js) (inr h) = absurd (reads-no n h.0 h.4)
  own-grounds n t (Kept js) h = absurd (own-kept n t js h)
  own-grounds n t (Fault cause j) h =
      let own = own-caused n t j cause h in
      ap (λ (v : Cause). Fault v j) own.0 ∙ ap (λ (i : ℕ). Fault (own_cause a.sense) i) own.1

  opens-none : (cause : Cause) → own_cause a.sense ≡ cause → Legal l → OpensNone l k cause
  opens-none cause e legal =
      record {
        unopened = unopened-at l k m (Asks c a) Plain stands refl;
        unsent = λ t i p s f. unsent-at l k m (Asks c a) Plain stands refl legal t i p s f;
        answered = λ n d g h. own-grounds n h.moment g (grounds-at l n d k g legal h) ∙ ap (λ (v : Cause). Fault v k) e;
      }

-- What is served is answered so.
module _ (l : List Noted) (k c m : ℕ) (a : Ask) (q : CoapRequest) (js : List ℕ) (sense : a.sense ≡ Requests q)
    (stands : at l k ≡ Some (noted m (Asks c a) (Serves js))) where
  served-no : (n o : ℕ) → reads (before l n) k ≡ Some o → ⊥
  served-no n o r = reads-none l k m (Asks c a) (Serves js) stands refl n o r

  served-ask : (n d s : ℕ) (b : Ask) (u : Note) → at (before l n) k ≡ Some (noted s (Asks d b) u) → (b ≡ a) × (u ≡ Serves js)
  served-ask n d s b u h =
      let same = at-same l k _ _ (at-before l n k _ h) stands in
      (ask-same s m d c b a u (Serves js) same, ap (λ (x : Noted). x.note) same)

  served-unturned : (n : ℕ) → IsTurnedAway (before l n) k → ⊥
  served-unturned n h = unserved (served-ask n h.conn h.moment h.ask Plain h.stands).1
    where
      unserved : Plain ≡ Serves js → ⊥
      unserved e = cc

  served-unrefused : (n : ℕ) (cause : Cause) → IsRefused (before l n) k cause → ⊥
  served-unrefused n cause h =
      unrefused (sym h.sense ∙ (ap (λ (v : Ask). v.sense) (served-ask n h.conn h.asked.moment h.ask h.asked.note h.asked.stands).0 ∙ sense))
    where
      unrefused : Refuses cause h.status ≡ Requests q → ⊥
      unrefused e = cc

  served-uncaused : (n t j : ℕ) (cause : Cause) → Caused (before l n) t k cause j → ⊥
  served-uncaused n t j Busy h = elim h.1 [ inl away ↦ served-unturned n away | inr turned ↦ served-no n turned.0 turned.2 ]
  served-uncaused n t j Timeout h = served-no n h.0 h.1
  served-uncaused n t j Reset h = served-no n h.0 h.1
  served-uncaused n t j NotUnderstood h = served-no n h.0 h.1
  served-uncaused n t j BadHttp h = served-unrefused n BadHttp h.2
  served-uncaused n t j NoMap h = served-unrefused n NoMap h.2
  served-uncaused n t j Method h = served-unrefused n Method h.2
  served-uncaused n t j Media h = served-unrefused n Media h.2

  served-grounds : (n t : ℕ) (g : Grounds) → HasGrounds (before l n) t k g → g ≡ Kept js
  served-grounds n t (Live ns) (inl h) = absurd (served-no n h.0 h.4)
  served-grounds n t (Live ns) (inr h) = absurd (served-no n h.0 h.4)
  served-grounds n t (Kept ns) h = same (served-ask n h.0 t h.1 (Serves ns) h.2).1
    where
      same : Serves ns ≡ Serves js → Kept ns ≡ Kept js
      same e = cc
  served-grounds n t (Fault cause j) h = absurd (served-uncaused n t j cause h)

  serves-one : Legal l → (s : Stored) → IsStored (before l k) q s → is_fresh m s ≡ true → s.list ≡ js → ServesOne l m k q
  serves-one legal s is fresh list =
      record {
        stored = s;
        is = is;
        fresh = fresh;
        unopened = unopened-at l k m (Asks c a) (Serves js) stands refl;
        unsent = λ t i p x f. unsent-at l k m (Asks c a) (Serves js) stands refl legal t i p x f;
        answered = λ n d g h. served-grounds n h.moment g (grounds-at l n d k g legal h) ∙ ap Kept (sym list);
      }

joins-one : (l : List Noted) (k c m o : ℕ) (a : Ask) (q : CoapRequest) → Legal l → at l k ≡ Some (noted m (Asks c a) (Joins o))
    → joins (before l k) q ≡ Some o → JoinsOne l k q
joins-one l k c m o a q legal stands e =
    let h = joins-is (before l k) q o e in
    record {
      opening = o;
      reads = ap (reads_in k) stands;
      earlier = subst (λ (n : ℕ). o < n) (length-before l k _ stands) (begun-below (before l k) o h.exchange h.opened);
      exchange = h.exchange;
      opened = begun-before l k o h.exchange h.opened;
      same = h.same;
      going = h.is_open;
      fresh = h.fresh;
      unopened = unopened-at l k m (Asks c a) (Joins o) stands refl;
      unsent = λ t i p s f. unsent-at l k m (Asks c a) (Joins o) stands refl legal t i p s f;
    }

opens-one : (l : List Noted) (k c m : ℕ) (a : Ask) (note : Note) (q : CoapRequest) → opens_by note ≡ Some q → Legal l
    → at l k ≡ Some (noted m (Asks c a) note) → joins (before l k) q ≡ None → has_room (before l k) m q ≡ true → OpensOne l k q
opens-one l k c m a note q opens legal stands alone room = record {
  since = m;
  opened = opens-begun l k m (Asks c a) note q opens stands;
  alone = alone;
  room = room;
  once = λ s t i j p r x y f g. sent-once l s t k i j p r x y legal f g;
}

-- An ask that isn't served could be served no more.
pub unserved-of : (l : List Noted) (t : ℕ) (a : Ask) (note : Note) → MissNote l t a note → UnservedNote l t a.sense note
unserved-of l t a (Renews q s) h = h.0
unserved-of l t a note h = h

opened : (l : List Noted) (k c m : ℕ) (a : Ask) (s : Sense) (note : Note) → a.sense ≡ s → Legal l
    → at l k ≡ Some (noted m (Asks c a) note) → AskNote (before l k) m s note → UnservedNote (before l k) m s note → OpensFor l m k s
opened l k c m a (Requests q) (Begins r) e legal stands h misses =
    inr (misses, inl (opens-one l k c m a (Begins r) q (ap (λ (v : CoapRequest). Some v) h.0) legal stands h.1 h.2))
opened l k c m a (Requests q) (Renews r s) e legal stands h misses =
    inr (misses, inl (opens-one l k c m a (Renews r s) q (ap (λ (v : CoapRequest). Some v) h.0) legal stands h.1 h.2))
opened l k c m a (Requests q) (Joins o) e legal stands h misses = inr (misses, inr (inl (joins-one l k c m o a q legal stands h)))
opened l k c m a (Requests q) (Serves js) e legal stands h served =
    inl (serves-one l k c m a q js e stands legal h.0 h.1 h.2 h.3)
opened l k c m a (Requests q) Plain e legal stands h misses =
    inr (misses, inr (inr (record { unopened = opens-none l k c m a stands Busy (ap own_cause e) legal; alone = h.0; full = h.1 })))
opened l k c m a (Refuses cause status) Plain e legal stands h u = opens-none l k c m a stands cause (ap own_cause e) legal
opened l k c m a s note e legal stands h u = absurd h

pub asked-once : (l : List Noted) (k c : ℕ) (a : Ask) → Legal l → (h : IsAsk l k c a) → OpensFor l h.moment k a.sense
asked-once l k c a legal h =
    let may = follows-at l k _ legal h.stands in
    opened l k c h.moment a a.sense h.note refl legal h.stands may.3 (unserved-of (before l k) h.moment a h.note may.4)

ask-sent : (l : List Noted) (i t : ℕ) (p : Peer) (b : List ℕ) (w : Option ℕ) (o : ℕ) (m : Content) → Legal l
    → at l i ≡ Some (noted t (Sends p b w) (First o m)) → IsAskSent l i p b
ask-sent l i t p b w o m legal e =
    let it = sent-for l t o i p m legal (record { bytes = b; timeout = w; stands = e }) in
    let ask = ask-behind l o it.exchange legal it.opened in
    let asks = next-is _ it.exchange.request _ m.mid m.token m it.next in
    record {
      ask = ask.number;
      conn = ask.conn;
      asked = ask.ask;
      request = it.exchange.request;
      message = m;
      moment = t;
      timeout = w;
      opening = o;
      stands = e;
      goes_back = ask.is;
      after = let le = ask.not_later in let lt = it.after in omega (arith, le, lt);
      asks = ask.asked;
      sense = ask.sense;
      peer = it.peer;
      block = asks.0;
      manner = asks.1;
      carries = asks.2;
      spelled = it.spelled;
    }

pub nothing-else-sent : (l : List Noted) (i t : ℕ) (p : Peer) (bytes : List ℕ) (w : Option ℕ) (note : Note) → Legal l
    → at l i ≡ Some (noted t (Sends p bytes w) note)
    → IsAskSent l i p bytes ⊎ (((j : ℕ) × (j < i) × IsAskSent l j p bytes) ⊎ IsConfirmation l i p bytes)
nothing-else-sent l i t p b w note legal e = go note e (follows-at l i _ legal e)
  where
    go : (note : Note) → at l i ≡ Some (noted t (Sends p b w) note) → Follows (before l i) t (Sends p b w) note
        → IsAskSent l i p b ⊎ (((j : ℕ) × (j < i) × IsAskSent l j p b) ⊎ IsConfirmation l i p b)
    go (First o m) e f = inl (ask-sent l i t p b w o m legal e)
    go (Copies j) e f =
        let copy : MayBeCopy (before l i) j p b = f.1.2 in
        let below = subst (λ (n : ℕ). j < n) (length-before l i _ e) (at-below (before l i) j _ copy.stands) in
        inr (inl (j, below, ask-sent l j copy.moment p b copy.timeout copy.opening copy.message legal (at-before l i j _ copy.stands)))
    go Confirms e f =
        let it : MayConfirm (before l i) p b = f.1.1 in
        let due = owed-to (before l i) it.confirmation it.is_owed in
        inr (inr (record {
          kind = it.confirmation.kind;
          mid = it.confirmation.mid;
          ack_or_rst = due.ack_or_rst;
          spelled = it.spelled;
          heard = due.heard;
          just_before = due.just_before ∙ length-before l i _ e;
          moment = due.moment;
          datagram = due.datagram;
          note = due.note;
          stands = subst (λ (v : Peer). at l due.heard ≡ Some (noted due.moment (Hears v due.datagram) due.note)) (sym it.peer) (at-before l i due.heard _ due.stands);
        }))
    go note e f = absurd f.1
