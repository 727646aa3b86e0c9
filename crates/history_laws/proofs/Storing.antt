-- An answer from the store: what it rests on, and that no write has outrun that.
use Rattle.std.proofs.Common.{◌≡◌, ℕ, suc, ◌<◌, ◌≤◌, ◌⊎◌, inl, inr, true, List, ◌∷◌, Some, refl, sym, ap, subst, ◌∙◌, arith, length}
use Rattle.std.proofs.lemmas.Bool.Decides.{eqb_tells, leb_tells}
use Rattle.std.proofs.lemmas.Bool.{false≢true}
use Rattle.std.specs.List.{Contains}
use Rattle.resp_cache.specs.Stored.{Stored, is_fresh}
use Rattle.ask_model.specs.Requests.{CoapRequest, Sense, Requests, Refuses}
use Rattle.cache_key.specs.declared.place.Place.{Place}
use Rattle.ask_model.specs.Sharing.{asked_place}
use Rattle.ask_model.specs.Views.{Ask}
use Rattle.ask_model.proofs.CallerLemmas.{same-place}
use Rattle.journal_book.specs.Entries.{Live, Kept, Fault, Deed, Opens, Asks, Sends, Hears, Passes, Answers, Shuts, Seals, Carries}
use Rattle.journal_book.specs.Entries as D
use Rattle.history_laws.specs.Readings.{Noted, Note, Renews, Says, Serves, carries, at, before, noted}
use Rattle.history_laws.specs.Progress.{Reply, Ending}
use Rattle.history_laws.specs.Exchanges.{Begun, Nothing, begun, kept, end_here, heard_for, turn, turn_by, waits_for}
use Rattle.history_laws.specs.Carrying.{carried}
use Rattle.history_laws.specs.Storing.{IsAsHeard, IsBrought, IsCarried, IsRenewed, IsStored, pieces_of}
use Rattle.history_laws.specs.Justified.{IsAsk, Ends, HasGrounds, AskNote, Follows, Legal, reads}
use Rattle.history_laws.specs.Laws.{IsReplyTo}
use Rattle.history_laws.specs.Grounds.{IsToldFor, IsWriteEnd, RestsOn, RestsOnKept, RestsOnNotice, RestsOnStored, RestsOnCarried, RestsOnRenewed, RestsOnTheStore, NothingOutrun}
use Rattle.history_laws.proofs.Basis.{grounds-of, number-of, requests-same}
use Rattle.history_laws.proofs.Begun.{comes-fit}
use Rattle.history_laws.proofs.Own.{rests-on-its-own}
use Rattle.history_laws.proofs.Renewing.{brought-of, brought-unoutrun, stored-told, stored-unoutrun}
use Rattle.history_laws.proofs.Carrying.{heard-of, carried-at, carried-before, carried-fit, copy-at, reply-before}
use Rattle.history_laws.proofs.Copying.{at-still}
use Rattle.history_laws.proofs.Elements.{contains-none}
use Rattle.history_laws.proofs.Facts.{at-before, follows-at, legal-before, length-before}
use Rattle.history_laws.proofs.Joining.{ReadsAlong, Shared, shared-is, reader, unoutrun-earlier, write-earlier, writes-there}
use Rattle.history_laws.proofs.Kept.{renews-for}
use Rattle.history_laws.proofs.Openings.{ends-first}
use Rattle.history_laws.proofs.Places.{at-below, at-same}
use Rattle.history_laws.proofs.Resting.{none-some, some-is}

-- what an ask was served
pub record Served (l : List Noted) (t k c : ℕ) (a : Ask) (js : List ℕ) : Type 0 where
  pub request : CoapRequest
  pub stands : at l k ≡ Some (noted t (Asks c a) (Serves js))
  pub sense : a.sense ≡ Requests request
  pub stored : Stored
  pub is : IsStored (before l k) request stored
  pub fresh : is_fresh t stored ≡ true
  pub list : stored.list ≡ js

pub served-by : (l : List Noted) (t k c : ℕ) (a : Ask) (js : List ℕ) → Legal l → at l k ≡ Some (noted t (Asks c a) (Serves js)) → Served l t k c a js
served-by l t k c a js legal stands = by a.sense refl (follows-at l k _ legal stands).3
  where
    by : (s : Sense) → a.sense ≡ s → AskNote (before l k) t s (Serves js) → Served l t k c a js
    by (Requests q) e h =
        record { request = q; stands = stands; sense = e; stored = h.0; is = h.1; fresh = h.2; list = h.3 }
    by (Refuses cause status) e h = absurd h

-- what is kept for an answer was served to its ask
pub kept-served : (l : List Noted) (n t c k : ℕ) (note : Note) (js : List ℕ) → Legal l → at l n ≡ Some (noted t (Answers c k (Kept js)) note)
    → (d : ℕ) × (a : Ask) × Served l t k d a js
kept-served l n t c k note js legal stands =
    let g : HasGrounds (before l n) t k (Kept js) = grounds-of (before l n) t c k (Kept js) note (follows-at l n _ legal stands) in
    (g.0, g.1, served-by l t k g.0 g.1 js legal (at-before l n k _ g.2))

-- No write to the place ended between the ask that what is stored goes back to and this one.
pub stored-current : (l : List Noted) (k e : ℕ) (q : CoapRequest) (s : Stored) → Legal l → k < length l → (is : IsBrought (before l k) q s)
    → IsWriteEnd l q.peer q.target.path e → e < k → e ≤ s.opening
stored-current l k e q s legal below is write lt =
    unoutrun-earlier l k s.opening e q legal below (brought-unoutrun (before l k) q s (legal-before l k legal) is) write lt

-- No write ends in a copy.

copied-nothing : (l : List Noted) (o : ℕ) (x : Noted) → carries x.written.deed ≡ true → turn l o x ≡ Nothing
copied-nothing l o x h = by x.written.deed h
  where
    by : (d : Deed) → carries d ≡ true → turn_by l o x.written.moment d x.note (waits_for l o) ≡ Nothing
    by (Carries k mark done) h = refl
    by (Opens c) h = absurd (false≢true h)
    by (Asks c a) h = absurd (false≢true h)
    by (Sends p b w) h = absurd (false≢true h)
    by (Hears p b) h = absurd (false≢true h)
    by Passes h = absurd (false≢true h)
    by (Answers c a g) h = absurd (false≢true h)
    by (Shuts c) h = absurd (false≢true h)
    by Seals h = absurd (false≢true h)

pub ended-uncopied : (l : List Noted) (o e : ℕ) (how : Ending) (y : Noted) → Ends l o e how → at l e ≡ Some y → carries y.written.deed ≡ true → ⊥
ended-uncopied l o e how y ended stands copied =
    let it = ends-first l o e how ended in
    let same : it.0 ≡ y = at-same l e _ _ it.1 stands in
    let none : turn (before l e) o it.0 ≡ Nothing = copied-nothing (before l e) o it.0 (ap (λ (v : Noted). carries v.written.deed) same ∙ copied) in
    none-some how (ap (end_here (begun (before l e) o) (kept (before l e) o) e (heard_for (before l e) o)) (sym none) ∙ it.3)

-- So none ended at the place of what is carried, or before it.
pub copied-current : (l : List Noted) (o e : ℕ) (b : Begun) (q : CoapRequest) → Legal l → carried l o ≡ Some b → IsWriteEnd l q.peer q.target.path e → e ≤ o → ⊥
copied-current l o e b q legal asked write early =
    let ask = carried-at l o b asked in
    let copy : Noted = noted b.since (Carries ask.old D.Ground (D.Asked ask.conn ask.ask)) ask.note in
    let stands : at l o ≡ Some copy = ask.stands in
    let first = ends-first l write.opening e write.how write.ended in
    elim (eqb_tells e o) [
      | inl w ↦ ended-uncopied l write.opening e write.how copy write.ended (subst (λ (n : ℕ). at l n ≡ Some copy) (sym w.1) stands) refl
      | inr w ↦
          let copies : Follows (before l o) b.since (Carries ask.old D.Ground (D.Asked ask.conn ask.ask)) ask.note = follows-at l o _ legal stands in
          let there = at-still l o e _ first.0 stands (less e o w.1 early) first.1 in
          ended-uncopied l write.opening e write.how first.0 write.ended first.1 (copy-at (before l o) e first.0 copies.0 there)
    ]
  where
    less : (a b : ℕ) → (a ≡ b → ⊥) → a ≤ b → a < b
    less a b apart le = elim (leb_tells b a) [ inl w ↦ absurd (apart (let ge = w.1 in omega (arith, le, ge))) | inr w ↦ let lt = w.1 in omega (arith, lt) ]

pub carried-current : (l : List Noted) (k e : ℕ) (q : CoapRequest) (s : Stored) → Legal l → k < length l → (is : IsCarried (before l k) q s)
    → IsWriteEnd l q.peer q.target.path e → e < k → ⊥
carried-current l k e q s legal below is write lt =
    copied-current l is.opening e is.carries.exchange q legal (carried-before l k is.opening is.carries.exchange is.carries.asked) write
    (unoutrun-earlier l k is.opening e q legal below is.current write lt)

module _ (l : List Noted) (t k c : ℕ) (a : Ask) (js : List ℕ) (legal : Legal l) (it : Served l t k c a js) where
  -- the exchange that it came of
  pub stored-shared : (is : IsBrought (before l k) it.request it.stored) → Shared (before l k) it.request is.opening
  stored-shared is = shared-is (before l k) it.request is.opening is.shared

  pub stored-rests : IsBrought (before l k) it.request it.stored → (j : ℕ) → Contains js j → (r : RestsOnStored l k j) × (r.asked.moment ≡ t) × (r.stored.list ≡ js)
  stored-rests is j has =
      let ws : List Reply = is.first ∷ is.more in
      let has_it = subst (λ (ns : List ℕ). Contains ns j) (sym it.list) has in
      let found = number-of ws j (subst (λ (ns : List ℕ). Contains ns j) is.list has_it) in
      let r : Reply = found.0 in
      let o : ℕ = is.opening in
      let was = comes-fit (before l k) o is.ending it.stored.response ws r (legal-before l k legal) is.comes found.1 in
      let below = at-below (before l k) r.number _ was.fits.heard in
      let of = brought-of l k _ it.request it.stored r legal it.stands is found.1 in
      let came = of.came in
      let same = found.2 in
      let len = length-before l k _ it.stands in (
        record {
          conn = c;
          ask = a;
          request = it.request;
          asked = record { moment = t; note = Serves js; stands = it.stands };
          sense = it.sense;
          stored = it.stored;
          is = is;
          fresh = it.fresh;
          listed = has_it;
          reply = r;
          number = same;
          earlier = omega (arith, below, len, same);
          owner = of.owner;
          owned = of.owned;
          fits = came.fits;
          after = of.late;
          moment = came.moment;
          mid = came.mid;
          token = came.token;
          block = came.block;
          manner = came.manner;
          first = came.first;
        },
        refl,
        it.list,
      )

  -- or the copies that it came of
  pub carried-rests : IsCarried (before l k) it.request it.stored → (j : ℕ) → Contains js j → (r : RestsOnCarried l k j) × (r.asked.moment ≡ t) × (r.stored.list ≡ js)
  carried-rests is j has =
      let ws : List Reply = is.first ∷ is.more in
      let has_it = subst (λ (ns : List ℕ). Contains ns j) (sym it.list) has in
      let found = number-of ws j (subst (λ (ns : List ℕ). Contains ns j) is.list has_it) in
      let r : Reply = found.0 in
      let was = carried-fit (before l k) is.opening is.carries.exchange r (legal-before l k legal) is.carries.asked
      (subst (λ (rs : List Reply). Contains rs r) (sym is.carries.replies) found.1) in
      let below = at-below (before l k) r.number _ was.heard in
      let same = found.2 in
      let len = length-before l k _ it.stands in (
        record {
          conn = c;
          ask = a;
          request = it.request;
          asked = record { moment = t; note = Serves js; stands = it.stands };
          sense = it.sense;
          stored = it.stored;
          is = is;
          fresh = it.fresh;
          listed = has_it;
          reply = r;
          number = same;
          earlier = omega (arith, below, len, same);
          fits = reply-before l k is.opening is.carries.exchange.request r was;
        },
        refl,
        it.list,
      )

  -- or what was renewed
  pub renewed-rests : IsRenewed (before l k) it.request it.stored → (j : ℕ) → Contains js j → (r : RestsOnRenewed l k j) × (r.asked.moment ≡ t) × (r.stored.list ≡ js)
  renewed-rests is j has =
      let has_it = subst (λ (ns : List ℕ). Contains ns j) (sym it.list) has in
      let told = stored-told (suc k) l k _ it.request it.stored j (omega arith) legal it.stands (inr is) has_it in (
        record {
          conn = c;
          ask = a;
          request = it.request;
          asked = record { moment = t; note = Serves js; stands = it.stands };
          sense = it.sense;
          stored = it.stored;
          is = is;
          fresh = it.fresh;
          listed = has_it;
          earlier = told.1;
          told = told.0;
        },
        refl,
        it.list,
      )

pub rests-on-the-store : RestsOnTheStore
rests-on-the-store l n t c k j note js legal stands has =
    let it = kept-served l n t c k note js legal stands in by it.0 it.1 it.2 it.2.is
  where
    by : (d : ℕ) (a : Ask) (it : Served l t k d a js) → IsStored (before l k) it.request it.stored
        → ((r : RestsOnStored l k j) × (r.asked.moment ≡ t) × (r.stored.list ≡ js))
        ⊎ (((r : RestsOnCarried l k j) × (r.asked.moment ≡ t) × (r.stored.list ≡ js))
        ⊎ ((r : RestsOnRenewed l k j) × (r.asked.moment ≡ t) × (r.stored.list ≡ js)))
    by d a it (inl u) = heard (heard-of (before l k) it.request it.stored u)
      where
        heard : IsAsHeard (before l k) it.request it.stored
            → ((r : RestsOnStored l k j) × (r.asked.moment ≡ t) × (r.stored.list ≡ js))
            ⊎ (((r : RestsOnCarried l k j) × (r.asked.moment ≡ t) × (r.stored.list ≡ js))
            ⊎ ((r : RestsOnRenewed l k j) × (r.asked.moment ≡ t) × (r.stored.list ≡ js)))
        heard (inl is) = inl (stored-rests l t k d a js legal it is j has)
        heard (inr is) = inr (inl (carried-rests l t k d a js legal it is j has))
    by d a it (inr is) = inr (inr (renewed-rests l t k d a js legal it is j has))

-- What is told was asked for after a write that ended before that.
told-late : (l : List Noted) (e since : ℕ) (q : CoapRequest) (j : ℕ) → Legal l → IsWriteEnd l q.peer q.target.path e → e ≤ since → IsToldFor l since q j
    → (o : ℕ) × (r : Reply) × IsReplyTo l o r × (r.number ≡ j) × (e < r.sending)
told-late l e since q j legal write le (inl h) = let late = h.late in (h.opening, h.reply, h.fits.fits, h.number, omega (arith, le, late))
told-late l e since q j legal write le (inr h) = absurd (copied-current l since e h.exchange q legal h.asked write le)

-- What is stored came of what was opened after such a write.
stored-late : (l : List Noted) (k e : ℕ) (x : Noted) (q : CoapRequest) (s : Stored) → Legal l → at l k ≡ Some x → IsStored (before l k) q s
    → IsWriteEnd l q.peer q.target.path e → e < k → e ≤ s.opening
stored-late l k e x q s legal stands is write lt =
    unoutrun-earlier l k s.opening e q legal (at-below l k x stands) (stored-unoutrun (before l k) q s (legal-before l k legal) is) write lt

-- No write ends in an ask.
ask-ends : (l : List Noted) (o e : ℕ) (how : Ending) (t c : ℕ) (a : Ask) (note : Note) → Ends l o e how → at l e ≡ Some (noted t (Asks c a) note) → ⊥
ask-ends l o e how t c a note ended stands =
    let it = ends-first l o e how ended in
    let same : it.0 ≡ noted t (Asks c a) note = at-same l e _ _ it.1 stands in
    let none : turn (before l e) o it.0 ≡ Nothing = ap (turn (before l e) o) same in
    none-some how (ap (end_here (begun (before l e) o) (kept (before l e) o) e (heard_for (before l e) o)) (sym none) ∙ it.3)

-- The exchange that an ask reads is for the same place.
place-read : (l : List Noted) (k o : ℕ) (q : CoapRequest) (b : Begun) → ((o ≡ k) × (q ≡ b.request)) ⊎ ReadsAlong l k o q b → asked_place q ≡ asked_place b.request
place-read l k o q b (inl own) = ap asked_place own.1
place-read l k o q b (inr along) = same-place q b.request along.same

-- So is what an exchange keeps.
kept-late : (l : List Noted) (k e j : ℕ) → Legal l → (h : RestsOnKept l k j) → IsWriteEnd l h.request.peer h.request.target.path e → e ≤ h.opening
    → e ≤ h.stored.opening
kept-late l k e j legal h write le =
    let for_it = renews-for l h.opening h.exchange (pieces_of (before l h.opening) h.stored) legal h.opened h.keeps in
    let first = ends-first l write.opening e write.how write.ended in
    let there : IsWriteEnd l h.exchange.request.peer h.exchange.request.target.path e = same-write in
    elim (eqb_tells e h.opening) [
      | inl w ↦ absurd (ask-ends l write.opening e write.how _ _ _ _ write.ended (subst (λ (n : ℕ). at l n ≡ Some (noted h.exchange.since (Asks for_it.conn for_it.ask) (Renews h.exchange.request (pieces_of (before l h.opening) h.stored)))) (sym w.1) for_it.stands))
      | inr w ↦ stored-late l h.opening e _ h.exchange.request h.stored legal for_it.stands h.is there (let other = w.1 in omega (arith, le, other))
    ]
  where
    same-write : IsWriteEnd l h.exchange.request.peer h.exchange.request.target.path e
    same-write =
        let it = reader l k h.opening legal h.reads in
        let request : it.request ≡ h.request = requests-same l k it.conn h.conn it.ask h.ask it.request h.request it.asked h.asked it.sense h.sense in
        let exchange : it.exchange ≡ h.exchange = some-is _ _ (sym it.opened ∙ h.opened) in
        let place : asked_place h.request ≡ asked_place h.exchange.request =
        ap asked_place (sym request) ∙ (place-read l k h.opening it.request it.exchange it.way ∙ ap (λ (b : Begun). asked_place b.request) exchange) in
        subst (λ (p : Place). IsWriteEnd l p.peer p.path e) place write

-- The replies that an answer rests on came to messages that were sent after the last write to the resource.
pub nothing-outrun : NothingOutrun
nothing-outrun l n c k j e (Live js) a q legal answer has ask sense get write lt = by (rests-on-its-own l n c k j js legal answer has)
  where
    before-it : (o : ℕ) → reads l k ≡ Some o → e ≤ o
    before-it o reading =
        let it = reader l k o legal reading in
        let same = requests-same l k c it.conn a it.ask q it.request ask it.asked sense it.sense in
        write-earlier l k o e legal it (subst (λ (q : CoapRequest). IsWriteEnd l q.peer q.target.path e) same write) lt

    by : RestsOn l k j ⊎ (RestsOnNotice l k j ⊎ RestsOnKept l k j) → (o : ℕ) × (r : Reply) × IsReplyTo l o r × (r.number ≡ j) × (e < r.sending)
    by (inl h) =
        let earlier = before-it h.opening h.reads in
        let after = h.after in
        (h.opening, h.reply, h.fits, h.number, omega (arith, earlier, after))
    by (inr (inl h)) =
        let it = reader l k j legal h.reads in
        let same = requests-same l k c it.conn a it.ask q it.request ask it.asked sense it.sense in
        let exchange : it.exchange ≡ h.exchange = some-is _ _ (sym it.opened ∙ h.opened) in
        let place : asked_place q ≡ asked_place h.exchange.request =
        ap asked_place same ∙ (place-read l k j it.request it.exchange it.way ∙ ap (λ (b : Begun). asked_place b.request) exchange) in
        let there : IsWriteEnd l h.exchange.request.peer h.exchange.request.target.path e = subst (λ (p : Place). IsWriteEnd l p.peer p.path e) place write in
        let earlier = h.begun_by.current there.opening e there.write there.how there.opened (writes-there l e h.exchange.request there) there.ended (before-it j h.reads) in
        let after = h.begun_by.after in
        (h.begun_by.ask, h.reply, h.begun_by.fits, h.number, omega (arith, earlier, after))
    by (inr (inr h)) =
        let it = reader l k h.opening legal h.reads in
        let same = requests-same l k c it.conn a it.ask q it.request ask it.asked sense it.sense in
        let other = requests-same l k it.conn h.conn it.ask h.ask it.request h.request it.asked h.asked it.sense h.sense in
        let there : IsWriteEnd l h.request.peer h.request.target.path e =
        subst (λ (q : CoapRequest). IsWriteEnd l q.peer q.target.path e) (same ∙ other) write in
        told-late l e h.stored.opening h.request j legal there (kept-late l k e j legal h there (before-it h.opening h.reads)) h.told
nothing-outrun l n c k j e (Kept js) a q legal answer has ask sense get write lt =
    let it = kept-served l n answer.moment c k answer.note js legal answer.stands in by it.0 it.1 it.2 it.2.is
  where
    there : (d : ℕ) (b : Ask) (r : CoapRequest) → IsAsk l k d b → b.sense ≡ Requests r → IsWriteEnd l r.peer r.target.path e
    there d b r asked means =
        subst (λ (q : CoapRequest). IsWriteEnd l q.peer q.target.path e) (requests-same l k c d a b q r ask asked sense means) write

    heard : (d : ℕ) (b : Ask) (it : Served l answer.moment k d b js) → IsAsHeard (before l k) it.request it.stored
        → (o : ℕ) × (r : Reply) × IsReplyTo l o r × (r.number ≡ j) × (e < r.sending)
    heard d b it (inl is) =
        let h = (stored-rests l answer.moment k d b js legal it is j has).0 in
        let earlier = stored-current l k e h.request h.stored legal (at-below l k _ h.asked.stands) h.is (there h.conn h.ask h.request h.asked h.sense) lt in
        let after = h.after in
        (h.owner, h.reply, h.fits, h.number, omega (arith, earlier, after))
    heard d b it (inr is) =
        absurd (carried-current l k e it.request it.stored legal (at-below l k _ it.stands) is
        (there d b it.request (record { moment = answer.moment; note = Serves js; stands = it.stands }) it.sense) lt)

    by : (d : ℕ) (b : Ask) (it : Served l answer.moment k d b js) → IsStored (before l k) it.request it.stored
        → (o : ℕ) × (r : Reply) × IsReplyTo l o r × (r.number ≡ j) × (e < r.sending)
    by d b it (inr is) =
        let told = (renewed-rests l answer.moment k d b js legal it is j has).0 in
        let writes = there told.conn told.ask told.request told.asked told.sense in
        told-late l e told.stored.opening told.request j legal writes
        (stored-late l k e _ told.request told.stored legal told.asked.stands (inr told.is) writes lt) told.told
    by d b it (inl u) = heard d b it (heard-of (before l k) it.request it.stored u)
nothing-outrun l n c k j e (Fault cause i) a q legal answer has ask sense get write lt = absurd (contains-none j has)
