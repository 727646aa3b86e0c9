-- What is observed was last asked for at a moment of the core's.
use Rattle.std.proofs.Common.{◌≡◌, ℕ, ◌≤◌, ◌^◌, Bool, true, false, cond, eqb, not, List, [], ◌∷◌, length, Option, Some, None, option_map, refl, subst, arith}
use Rattle.std.specs.List.{AllByRecursion}
use Rattle.coap_codec.specs.Spelling.{Content}
use Rattle.ask_model.specs.Requests.{CoapRequest, Sense, Requests, Refuses}
use Rattle.journal_book.specs.Entries.{Deed, Asks, Hears, Passes}
use Rattle.observe_share.specs.declared.registration.Registration.{Registration}
use Rattle.observe_share.specs.declared.notice.Notice as Shared
use Rattle.observe_share.specs.declared.notice.Notice.TheVariants.{Update, Other}
use Rattle.observe_share.specs.Watches.{counted, counts_for, first_changed, in_place}
use Rattle.history_laws.specs.Readings.{Noted, Note, Begins, Renews, Joins, Says, Observation, Unobserved, Registers, Updates, Outdates, Starts, Cancels, newest}
use Rattle.history_laws.specs.Transmissions.{FirstSending, first_at}
use Rattle.history_laws.specs.Exchanges.{Begun, begun}
use Rattle.history_laws.specs.Observing.{Watch, asked_again, asked_by, asked_last, asked_last_by, current_by, held_by, idles, is_current, is_for, is_under, notice_in, registered, registered_of, told_by, watches, watches_by}
use Rattle.history_laws.specs.Justified.{Legal}
use Rattle.history_laws.proofs.CallerLemmas.{all-filter, all-join, all-more, none-some, some-is}
use Rattle.exchange_model.proofs.CallerLemmas.{all-map}
use Rattle.exchange_model.specs.State.{State}
use Rattle.exchange_model.specs.Reads.{held_of}
use Rattle.exchange_model.specs.Keeping.{Kept}
use Rattle.exchange_core.specs.Due.{IsAskedEarly}

last-early : (l : List Noted) (o : ℕ) → Legal l → asked_last l o ≤ newest l
last-early [] o legal = omega arith
last-early (x ∷ older) o legal = by x.note (let before = last-early older o legal.0 in let later = legal.1 in omega (arith, before, later))
  where
    t : ℕ
    t = x.written.moment

    chosen : (b : Bool) → asked_last older o ≤ t → cond b t (asked_last older o) ≤ t
    chosen true old = omega arith
    chosen false old = old

    by : (n : Note) → asked_last older o ≤ t → asked_last_by o (length older) t n (asked_last older o) ≤ t
    by (Begins q) old = chosen (eqb (length older) o) old
    by (Renews q s) old = chosen (eqb (length older) o) old
    by (Joins p) old = chosen (eqb p o) old
    by n old = old

module _ (last : ℕ) where
  abbrev Early : Watch → Type 0
  Early w = w.held.asked ≤ last

  held-early : (m : Content) (t : ℕ) (w x : Watch) → held_by m t w ≡ Some x → Early w → Early x
  held-early m t w x e early = by (notice_in m) (counts_for (notice_in m) t w.held) e
    where
      by : (n : Shared.Notice) (b : Bool) → option_map (λ (r : Registration). record w { held = r }) (cond b (counted n t w.held) (Some w.held)) ≡ Some x
          → Early x
      by n false e = subst Early (some-is _ _ e) early
      by (Update v) true e = subst Early (some-is _ _ e) early
      by (Other v) true e = absurd (none-some x e)

  changed-early : (q : Watch → Bool) (m : Content) (t : ℕ) (ws : List Watch) → AllByRecursion Early ws → AllByRecursion Early (first_changed q (held_by m t) ws)
  changed-early q m t [] all = tt
  changed-early q m t (w ∷ ws) all = by (q w) (changed-early q m t ws all.1)
    where
      placed : (o : Option Watch) → held_by m t w ≡ o → AllByRecursion Early (in_place o ws)
      placed None e = all.1
      placed (Some x) e = (held-early m t w x e all.0, all.1)

      by : (b : Bool) → AllByRecursion Early (first_changed q (held_by m t) ws) → AllByRecursion Early (cond b (in_place (held_by m t w) ws) (w ∷ first_changed q (held_by m t) ws))
      by true later = placed (held_by m t w) refl
      by false later = (all.0, later)

  registered-early : (l : List Noted) (t i : ℕ) (m : Content) → ((o : ℕ) → asked_last l o ≤ last) → AllByRecursion Early (registered l t i m (first_at l i))
  registered-early l t i m early = by (first_at l i)
    where
      one : (o : ℕ) (b : Option Begun) → AllByRecursion Early (registered_of l t i m o b)
      one o None = tt
      one o (Some b) = (early o, tt)

      by : (f : Option FirstSending) → AllByRecursion Early (registered l t i m f)
      by None = tt
      by (Some f) = one f.opening (begun l f.opening)

  told-early : (l : List Noted) (t i : ℕ) (m : Content) (o : Observation) → ((o : ℕ) → asked_last l o ≤ last)
      → AllByRecursion Early (watches l) → AllByRecursion Early (told_by l t i m o (watches l))
  told-early l t i m Unobserved early all = all
  told-early l t i m Registers early all = all-join Early (watches l) (registered l t i m (first_at l i)) all (registered-early l t i m early)
  told-early l t i m Updates early all = changed-early (is_under m.token) m t (watches l) all
  told-early l t i m Outdates early all = changed-early (is_under m.token) m t (watches l) all
  told-early l t i m (Starts ask request) early all = changed-early (is_under m.token) m t (watches l) all
  told-early l t i m Cancels early all = changed-early (is_under m.token) m t (watches l) all

  asked-early : (t : ℕ) (s : Sense) (n : Note) (ws : List Watch) → t ≤ last → AllByRecursion Early ws → AllByRecursion Early (asked_by t s n ws)
  asked-early t s n ws now all = by s n
    where
      again : (q : CoapRequest) (w : Watch) → Early w → Early (asked_again q t w)
      again q w h = touched (is_for q w)
        where
          touched : (b : Bool) → Early (cond b (record w { held = record w.held { asked = t } }) w)
          touched true = now
          touched false = h

      by : (s : Sense) (n : Note) → AllByRecursion Early (asked_by t s n ws)
      by (Requests q) (Begins r) = all-filter Early (λ (w : Watch). not (is_for q w)) ws all
      by (Requests q) (Renews r s) = all-filter Early (λ (w : Watch). not (is_for q w)) ws all
      by (Requests q) n = all-map (asked_again q t) Early ws (all-more Early (λ (w : Watch). Early (asked_again q t w)) (again q) ws all)
      by (Refuses cause status) n = all

  step-early : (l : List Noted) (t : ℕ) (d : Deed) (note : Note) → t ≤ last → ((o : ℕ) → asked_last l o ≤ last) → AllByRecursion Early (watches l)
      → AllByRecursion Early (watches_by l t d note (watches l))
  step-early l t (Asks c a) note now early all = asked-early t a.sense note (watches l) now all
  step-early l t (Hears p b) (Says m (Some i) notice) now early all = told-early l t i m notice.observation early all
  step-early l t (Hears p b) note now early all = all
  step-early l t Passes note now early all = all-filter Early (λ (w : Watch). not (idles t w)) (watches l) all
  step-early l t d note now early all = all

  current-early : (l : List Noted) (d : Deed) (note : Note) (ws : List Watch) → AllByRecursion Early ws → AllByRecursion Early (current_by l d note ws)
  current-early l (Hears p b) (Says m to notice) ws all = all-filter Early (is_current l) ws all
  current-early l Passes note ws all = all-filter Early (is_current l) ws all
  current-early l d note ws all = all

watches-early : (l : List Noted) (last : ℕ) → Legal l → newest l ≤ last → AllByRecursion (Early last) (watches l)
watches-early [] last legal le = tt
watches-early (x ∷ older) last legal le =
    let before : newest older ≤ last = let later = legal.1 in omega (arith, later, le) in
    current-early last (x ∷ older) x.written.deed x.note _
    (step-early last older x.written.moment x.written.deed x.note le
    (λ o. let old = last-early older o legal.0 in omega (arith, old, before))
    (watches-early older last legal.0 before))

pub all-asked : (S : State) → Kept S → S.moment ≤ 2 ^ 62 → AllByRecursion IsAskedEarly S.watches
all-asked S k early =
    let r = k.rests.reads in
    subst (AllByRecursion IsAskedEarly) r.watches_are
    (all-map held_of IsAskedEarly (watches k.reading)
    (watches-early k.reading (2 ^ 62) r.legal (let now = r.moment_is in omega (arith, now, early))))
