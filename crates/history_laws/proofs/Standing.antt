-- No write has outrun what a watch stands for.
use Rattle.std.proofs.Common.{◌≡◌, ℕ, Bool, true, false, cond, not, eqb, List, [], ◌∷◌, length, Option, Some, None, is_some, refl, sym, ap, subst, ◌∙◌}
use Rattle.std.specs.List.{AllByRecursion, Contains}
use Rattle.std.proofs.lemmas.Bool.{false≢true}
use Rattle.cache_key.specs.declared.place.Place.{Place}
use Rattle.ask_model.specs.Requests.{CoapRequest, Sense, Requests, Refuses}
use Rattle.resp_cache.specs.Stored.{Stored}
use Rattle.journal_book.specs.Entries.{Deed, Asks, Sends, Hears, Passes}
use Rattle.history_laws.specs.Readings.{Noted, Note, Begins, Renews, First, Says, noted}
use Rattle.history_laws.specs.Progress.{Reply}
use Rattle.history_laws.specs.Exchanges.{Begun, begun, Sent, Nothing, turn, turn_by, waits_for, kept, heard_for, end_by, end_here, end_of}
use Rattle.history_laws.specs.Joining.{outrun}
use Rattle.history_laws.specs.Observing.{Watch, asked_again, asked_by, current_by, is_current, is_for, watches, watches_by}
use Rattle.history_laws.specs.Justified.{Legal}
use Rattle.history_laws.proofs.Elements.{all-filter, all-more, all-of, all-passes}
use Rattle.history_laws.proofs.Outrunning.{EndsWrite, outrun-quiet}
use Rattle.history_laws.proofs.Registering.{all-mapped, not-false}

-- an entry by which nothing ends
abbrev pub EndsNothing : Deed → Note → Type 0
EndsNothing (Hears p b) (Says m to notice) = ⊥
EndsNothing Passes note = ⊥
EndsNothing d note = Unit {0}

no-end : (l : List Noted) (o t : ℕ) (d : Deed) (note : Note) (waits : Option ℕ) → EndsNothing d note
    → (b : Option Begun) (v : Option Stored) (n : ℕ) (hs : List Reply) → end_here b v n hs (turn_by l o t d note waits) ≡ None
no-end l o t (Hears p b) (Says m to notice) waits h c v n hs = absurd h
no-end l o t Passes note waits h c v n hs = absurd h
no-end l o t (Sends p b w) (First q m) waits h c v n hs = by (eqb q o)
  where
    by : (here : Bool) → end_here c v n hs (cond here (Sent (length l)) Nothing) ≡ None
    by true = refl
    by false = refl
no-end l o t d note waits h c v n hs = refl

module _ (l : List Noted) (t : ℕ) (d : Deed) (note : Note) (legal : Legal (noted t d note ∷ l)) (quiet : EndsNothing d note) where
  still-none : (o : ℕ) → end_of l o ≡ None → end_of (noted t d note ∷ l) o ≡ None
  still-none o going = rw (no-end l o t d note (waits_for l o) quiet (begun l o) (kept l o) (length l) (heard_for l o), going) refl

  ends-no-write : (place : Place) → EndsWrite (noted t d note) l place → ⊥
  ends-no-write place h = false≢true (sym (ap is_some (still-none h.opening h.going)) ∙ h.ended)

  current-quiet : (w : Watch) → is_current l w ≡ true → is_current (noted t d note ∷ l) w ≡ true
  current-quiet w e = ap not (outrun-quiet (noted t d note) l w.held.key.place w.held.opening legal (ends-no-write w.held.key.place)) ∙ e

  all-quiet : AllByRecursion (λ (w : Watch). is_current l w ≡ true) (watches l) → AllByRecursion (λ (w : Watch). is_current (noted t d note ∷ l) w ≡ true) (watches l)
  all-quiet a = all-more (λ (w : Watch). is_current l w ≡ true) (λ (w : Watch). is_current (noted t d note ∷ l) w ≡ true) current-quiet (watches l) a

  asked-current : (q : CoapRequest) (s : ℕ) (w : Watch) → is_current (noted t d note ∷ l) w ≡ true → is_current (noted t d note ∷ l) (asked_again q s w) ≡ true
  asked-current q s w e = by (is_for q w)
    where
      by : (b : Bool) → is_current (noted t d note ∷ l) (cond b (record w { held = record w.held { asked = s } }) w) ≡ true
      by true = e
      by false = e

current-step : (l : List Noted) (t : ℕ) (d : Deed) (note : Note) → Legal (noted t d note ∷ l) → AllByRecursion (λ (w : Watch). is_current l w ≡ true) (watches l)
    → AllByRecursion (λ (w : Watch). is_current (noted t d note ∷ l) w ≡ true) (current_by (noted t d note ∷ l) d note (watches_by l t d note (watches l)))
current-step l t (Hears p b) (Says m to notice) legal a =
    all-passes (is_current (noted t (Hears p b) (Says m to notice) ∷ l)) (watches_by l t (Hears p b) (Says m to notice) (watches l))
current-step l t Passes note legal a = all-passes (is_current (noted t Passes note ∷ l)) (watches_by l t Passes note (watches l))
current-step l t (Asks c a) note legal all = by a.sense note
  where
    P : Watch → Type 0
    P w = is_current (noted t (Asks c a) note ∷ l) w ≡ true

    old : AllByRecursion P (watches l)
    old = all-quiet l t (Asks c a) note legal tt all

    by : (s : Sense) (n : Note) → AllByRecursion P (asked_by t s n (watches l))
    by (Requests q) (Begins r) = all-filter P (λ (w : Watch). not (is_for q w)) (watches l) old
    by (Requests q) (Renews r s) = all-filter P (λ (w : Watch). not (is_for q w)) (watches l) old
    by (Requests q) n = all-mapped P (asked_again q t) (λ w h. asked-current l t (Asks c a) note legal tt q t w h) (watches l) old
    by (Refuses cause status) n = old
current-step l t d note legal a = all-quiet l t d note legal tt a

watches-current : (l : List Noted) → Legal l → AllByRecursion (λ (w : Watch). is_current l w ≡ true) (watches l)
watches-current [] legal = tt
watches-current (x ∷ older) legal = current-step older x.written.moment x.written.deed x.note legal (watches-current older legal.0)

pub watch-current : (l : List Noted) (w : Watch) → Legal l → Contains (watches l) w → outrun l w.held.key.place w.held.opening ≡ false
watch-current l w legal h =
    not-false (outrun l w.held.key.place w.held.opening) (all-of (λ (w : Watch). is_current l w ≡ true) (watches l) w (watches-current l legal) h)
