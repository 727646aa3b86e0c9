-- Which watches the ends of writes leave.
use Rattle.std.proofs.Common.{◌≡◌, ℕ, ◌<◌, Bool, true, false, cond, eqb, not, List, [], ◌∷◌, length, Option, is_some, refl, sym, ap, ◌∙◌}
use Rattle.std.specs.List.{AllByRecursion}
use Rattle.std.proofs.lemmas.Bool.{false≢true, and_parts, not-true}
use Rattle.ask_model.specs.Requests.{CoapRequest, Sense, Requests, Refuses}
use Rattle.ask_model.specs.Sharing.{asked_place, writes_to}
use Rattle.cache_key.specs.Keys.{same_place}
use Rattle.journal_book.specs.Entries.{Deed, Asks, Sends, Hears, Passes}
use Rattle.observe_share.specs.declared.registration.Registration.{Registration}
use Rattle.history_laws.specs.Readings.{Noted, Note, Begins, First, Says, noted, Renews}
use Rattle.history_laws.specs.Exchanges.{Nothing, Sent, begun, end_by, end_here, end_of, kept as kept_of, heard_for}
use Rattle.history_laws.specs.Joining.{outrun}
use Rattle.history_laws.specs.Justified.{Legal}
use Rattle.history_laws.specs.Observing.{Watch, asked_again, asked_by, current_by, is_current, is_for, watches, watches_by}
use Rattle.history_laws.proofs.CallerLemmas.{all-filter, all-more, all-passes, any-of, EndsWrite, find-any, find-some, outrun-quiet, write-outruns}
use Rattle.exchange_model.specs.declared.kept.Exchange.{Exchange}
use Rattle.exchange_model.specs.State.{State}
use Rattle.exchange_model.specs.Matters.{asked_in}
use Rattle.exchange_model.specs.Hearing.{is_written_late}
use Rattle.exchange_model.specs.Watching.{is_written_by}
use Rattle.exchange_model.specs.Reads.{ExchangeIn, Reads}
use Rattle.exchange_model.proofs.Lists.{all-map}
use Rattle.exchange_model.proofs.Outrun.{asked-here, EndsThose}
use Rattle.exchange_model.proofs.Settling.{ends-write, kept, write-of}

-- Each that stands is current.

abbrev IsCurrent : List Noted → Watch → Type 0
IsCurrent l w = is_current l w ≡ true

abbrev IsEndless : Deed → Note → Type 0
IsEndless (Hears p b) (Says m to notice) = ⊥
IsEndless Passes note = ⊥
IsEndless d note = Unit {0}

none-ends : (l : List Noted) (t : ℕ) (d : Deed) (note : Note) → IsEndless d note → (o : ℕ) → end_of (noted t d note ∷ l) o ≡ end_of l o
none-ends l t (Hears p b) (Says m to notice) h o = absurd h
none-ends l t Passes note h o = absurd h
none-ends l t (Sends p b w) (First q m) h o = by (eqb q o)
  where
    by : (b : Bool) → end_by (end_here (begun l o) (kept_of l o) (length l) (heard_for l o) (cond b (Sent (length l)) Nothing)) (length l) (end_of l o) ≡ end_of l o
    by true = refl
    by false = refl
none-ends l t d note h o = refl

current-stays : (l : List Noted) (t : ℕ) (d : Deed) (note : Note) → IsEndless d note → Legal (noted t d note ∷ l) → (w : Watch) → IsCurrent l w → IsCurrent (noted t d note ∷ l) w
current-stays l t d note endless legal w is =
    ap not (outrun-quiet (noted t d note) l w.held.key.place w.held.opening legal
    (λ h. false≢true (sym (ap is_some (none-ends l t d note endless h.opening ∙ h.going)) ∙ h.ended))) ∙ is

current-step : (l : List Noted) (t : ℕ) (d : Deed) (note : Note) → Legal (noted t d note ∷ l) → AllByRecursion (IsCurrent l) (watches l)
    → AllByRecursion (IsCurrent (noted t d note ∷ l)) (current_by (noted t d note ∷ l) d note (watches_by l t d note (watches l)))
current-step l t (Hears p b) (Says m to notice) legal all = all-passes (is_current (noted t (Hears p b) (Says m to notice) ∷ l)) _
current-step l t Passes note legal all = all-passes (is_current (noted t Passes note ∷ l)) _
current-step l t (Asks c a) note legal all = by a.sense note
  where
    P : Watch → Type 0
    P = IsCurrent (noted t (Asks c a) note ∷ l)

    still : AllByRecursion P (watches l)
    still = all-more (IsCurrent l) P (current-stays l t (Asks c a) note tt legal) (watches l) all

    again : (q : CoapRequest) (w : Watch) → P w → P (asked_again q t w)
    again q w h = touched (is_for q w)
      where
        touched : (b : Bool) → P (cond b (record w { held = record w.held { asked = t } }) w)
        touched true = h
        touched false = h

    by : (s : Sense) (n : Note) → AllByRecursion P (asked_by t s n (watches l))
    by (Requests q) (Begins r) = all-filter P (λ (w : Watch). not (is_for q w)) (watches l) still
    by (Requests q) (Renews r s) = all-filter P (λ (w : Watch). not (is_for q w)) (watches l) still
    by (Requests q) n = all-map (asked_again q t) P (watches l) (all-more P (λ (w : Watch). P (asked_again q t w)) (again q) (watches l) still)
    by (Refuses cause status) n = still
current-step l t d note legal all = all-more (IsCurrent l) (IsCurrent (noted t d note ∷ l)) (current-stays l t d note tt legal) (watches l) all

pub watches-current : (l : List Noted) → Legal l → AllByRecursion (λ (w : Watch). is_current l w ≡ true) (watches l)
watches-current [] legal = tt
watches-current (x ∷ older) legal = current-step older x.written.moment x.written.deed x.note legal (watches-current older legal.0)

-- It stays so unless a write to its place ends.
module _ (x : Noted) (l : List Noted) (S : State) (r : Reads l S) (legal : Legal (x ∷ l)) (over : List Exchange) (ends : EndsThose x l S over) where
  writes-it : (f : Exchange) (a : ExchangeIn r.start l f) (held : Registration) → is_written_by (asked_in S.entries f.ask) held ≡ writes_to held.key.place a.request
  writes-it f a held = ap (λ (q : Option CoapRequest). is_written_by q held) (asked-here l S r f a)

  by-write : (held : Registration) → is_written_late S.entries over held ≡ true → EndsWrite x l held.key.place
  by-write held any =
      let tells : Exchange → Bool = λ e. is_written_by (asked_in S.entries e.ask) held in
      let found = find-any tells over any in
      let it = find-some tells over found.0 found.1 in
      let a = kept x l S r legal found.0 (ends.ended found.0 it.0).0 in
      let both = and_parts (not (eqb a.request.method 1)) (same_place held.key.place (asked_place a.request)) (sym (writes-it found.0 a held) ∙ it.1) in
      ends-write x l S r legal over ends found.0 it.0 a.request (asked-here l S r found.0 a) (not-true (eqb a.request.method 1) both.0) held.key.place both.1

  none-writes : (held : Registration) → is_written_late S.entries over held ≡ false → EndsWrite x l held.key.place → ⊥
  none-writes held none h =
      let g = write-of x l S r legal over ends held.key.place h in
      false≢true (sym none ∙ any-of (λ (e : Exchange). is_written_by (asked_in S.entries e.ask) held) over g.0 g.1 (writes-it g.0 g.2 held ∙ g.3))

  pub current-after : (w : Watch) → w.held.opening < length l → is_current l w ≡ true → is_current (x ∷ l) w ≡ not (is_written_late S.entries over w.held)
  current-after w below is = by (is_written_late S.entries over w.held) refl
    where
      was : outrun l w.held.key.place w.held.opening ≡ false
      was = not-true (outrun l w.held.key.place w.held.opening) is

      by : (b : Bool) → is_written_late S.entries over w.held ≡ b → is_current (x ∷ l) w ≡ not b
      by true any = ap not (write-outruns x l w.held.key.place w.held.opening (by-write w.held any) below)
      by false none = ap not (outrun-quiet x l w.held.key.place w.held.opening legal (none-writes w.held none) ∙ was)
