-- Copies go out in the step of the first tick that finds them due.
use Rattle.std.proofs.Common.{◌≡◌, ℕ, zero, suc, ◌+◌, ◌*◌, ◌^◌, ◌<◌, ◌≤◌, Bool, true, false, inl, inr, List, [], ◌∷◌, length, Option, Some, refl, sym, ap, subst, arith, ◌∙◌}
use Rattle.std.specs.Prelude.{⊤}
use Rattle.std.specs.List.{list_all}
use Rattle.std.proofs.lemmas.Bool.{ltb-true}
use Rattle.uri_map.specs.declared.peer.Peer.{Peer}
use Rattle.journal_book.specs.Entries.{Deed, Opens, Asks, Sends, Hears, Passes, Answers, Shuts, Seals, Carries}
use Rattle.history_laws.specs.Readings.{Noted, Note, First, Copies, at, before, newest, ticked, noted, Bygone}
use Rattle.journal_book.specs.Entries as D
use Rattle.history_laws.specs.Connections.{is_sealed}
use Rattle.history_laws.specs.Transmissions.{FirstSending, firsts_by, firsts, Transmission, due, transmission}
use Rattle.history_laws.specs.Justified.{MayCome, is_early, is_done, AtRest, Legal, MayBeCopy}
use Rattle.history_laws.specs.Laws.{IsDone, IsInTime}
use Rattle.history_laws.proofs.Resting.{and-left, and-right, none-some}
use Rattle.history_laws.proofs.Places.{at-new, at-keeps, at-below, at-old, before-keeps, before-new}
use Rattle.history_laws.proofs.Facts.{follows-at, legal-before, at-before, length-before}
use Rattle.history_laws.proofs.Outstanding.{copies-way, way-cases, Sound, sound}

-- What passes for all first sendings did so before.
all-fewer : (f : FirstSending → Bool) (n t : ℕ) (d : Deed) (note : Note) (old : List FirstSending)
    → list_all f (firsts_by n t d note old) ≡ true → list_all f old ≡ true
all-fewer f n t (Sends p b w) (First o m) old h = and-right _ _ h
all-fewer f n t (Carries k mark (D.Sent p b w)) (Bygone m) old h = and-right _ _ h
all-fewer f n t (Carries k mark (D.Sent p b w)) (First o m) old h = and-right _ _ h
all-fewer f n t (Carries k mark (D.Sent p b w)) note old h = h
all-fewer f n t (Carries k mark done) note old h = h
all-fewer f n t d note old h = h

-- What is outstanding was sent, so that it passes.
all-first : (f : FirstSending → Bool) (l : List Noted) (i : ℕ) (y : Transmission) → list_all f (firsts l) ≡ true → transmission l i ≡ Some y
    → (g : FirstSending) × (g.number ≡ i) × (f g ≡ true)
all-first f [] i y h e = absurd (none-some y e)
all-first f (x ∷ older) i y h e =
    let fewer = all-fewer f (length older) x.written.moment x.written.deed x.note (firsts older) h in
    elim (way-cases x older i y e) [
      | inl v ↦ (
        record { number = length older; moment = x.written.moment; opening = v.opening; peer = v.peer; message = v.message },
        v.here,
        and-left _ (list_all f (firsts older)) (subst (λ (z : Noted). list_all f (firsts (z ∷ older)) ≡ true) v.entry h),
      )
      | inr (inl v) ↦ all-first f older i v.way fewer v.was
      | inr (inr v) ↦ all-first f older i y fewer v
    ]

pub none-left : (l : List Noted) (i : ℕ) (y : Transmission) → AtRest l → is_sealed l ≡ false → transmission l i ≡ Some y → ticked l < due y
none-left l i y rest unsealed e =
    let it = all-first (is_done l) l i y (rest.copied unsealed) e in
    let early = subst (λ (i : ℕ). is_early (ticked l) (transmission l i) ≡ true) it.1 it.2 in
    ltb-true (ticked l) (due y) (subst (λ (o : Option Transmission). is_early (ticked l) o ≡ true) e early)

-- no tick lies after the newest entry
ticked-step : (l : List Noted) (t : ℕ) (d : Deed) (note : Note) → newest l ≤ t → ticked l ≤ newest l → ticked (noted t d note ∷ l) ≤ t
ticked-step l t Passes note a b = omega arith
ticked-step l t d note a b = omega (arith, a, b)

pub ticked-newest : (l : List Noted) → Legal l → ticked l ≤ newest l
ticked-newest [] legal = omega arith
ticked-newest (x ∷ older) legal =
    ticked-step older x.written.moment x.written.deed x.note legal.1 (ticked-newest older legal.0)

-- a copy isn't due when the message went out just now
later : (t w n : ℕ) → 2000 ≤ w → n ≤ 4 → t < t + w * 2 ^ n
later t w zero a b = omega arith
later t w (suc zero) a b = omega arith
later t w (suc (suc zero)) a b = omega arith
later t w (suc (suc (suc zero))) a b = omega arith
later t w (suc (suc (suc (suc zero)))) a b = omega arith
later t w (suc (suc (suc (suc (suc n))))) a b = absurd (omega arith)

not-yet : (y : Transmission) → Sound y → y.last < due y
not-yet y h = later y.last y.timeout y.copies h.least h.few

-- the tick that found it due, with what was done since
pub record TickFor (l : List Noted) (y : Transmission) : Type 0 where
  pub tick : ℕ
  pub moment : ℕ
  pub note : Note
  pub stands : at l tick ≡ Some (noted moment Passes note)
  pub is_due : due y ≤ moment
  pub first : ticked (before l tick) < due y
  pub same_step : (j : ℕ) (x : Noted) → tick < j → at l j ≡ Some x → IsDone x.written.deed

TickFor-keeps : (x : Noted) (l : List Noted) (y : Transmission) → IsDone x.written.deed → TickFor l y → TickFor (x ∷ l) y
TickFor-keeps x l y done h =
    let below = at-below l h.tick _ h.stands in
    record {
      tick = h.tick;
      moment = h.moment;
      note = h.note;
      stands = at-keeps x l h.tick _ h.stands;
      is_due = h.is_due;
      first = rw (before-keeps x l h.tick below) (h.first);
      same_step = λ j z lt e. elim (at-old x l j z e) [
        | inl w ↦ subst (λ (v : Noted). IsDone v.written.deed) w.1 done
        | inr w ↦ h.same_step j z lt w
      ];
    }

-- an entry that sends nothing changes no message that stays outstanding
abbrev Quiet : Deed → Type 0
Quiet (Sends p b w) = ⊥
Quiet _ = ⊤

stays : (x : Noted) (l : List Noted) (i : ℕ) (y : Transmission) → Quiet x.written.deed → transmission (x ∷ l) i ≡ Some y → transmission l i ≡ Some y
stays x l i y quiet e =
    elim (way-cases x l i y e) [
      | inl v ↦ absurd (subst (λ (z : Noted). Quiet z.written.deed) v.entry quiet)
      | inr (inl v) ↦ absurd (subst (λ (z : Noted). Quiet z.written.deed) v.entry quiet)
      | inr (inr v) ↦ v
    ]

-- the input that comes finds nothing due
input : (l : List Noted) (i : ℕ) (y : Transmission) → MayCome l → transmission l i ≡ Some y → ticked l < due y
input l i y may e = none-left l i y may.1 may.0 e

sent-just-now : (x : Noted) (l : List Noted) (y : Transmission) → Legal l → newest l ≤ x.written.moment → Sound y → y.last ≡ x.written.moment
    → ticked l < due y
sent-just-now x l y legal le h same =
    let a = ticked-newest l legal in
    let b = not-yet y h in
    omega (arith, a, b, le, same)

tick-step : (l : List Noted) (t : ℕ) (d : Deed) (note : Note) (i : ℕ) (y : Transmission) → Legal (noted t d note ∷ l)
    → ((z : Transmission) → transmission l i ≡ Some z → due z ≤ ticked l → TickFor l z)
    → transmission (noted t d note ∷ l) i ≡ Some y → due y ≤ ticked (noted t d note ∷ l) → TickFor (noted t d note ∷ l) y
tick-step l t (Sends p b w) note i y legal ih e h =
    let x = noted t (Sends p b w) note in
    let s = sound (x ∷ l) i y legal e in
    elim (way-cases x l i y e) [
      | inl v ↦ let a = sent-just-now x l y legal.0 legal.1 s (sym (ap (λ (z : Transmission). z.last) v.is)) in absurd (omega (arith, a, h))
      | inr (inl v) ↦ let a = sent-just-now x l y legal.0 legal.1 s (sym (ap (λ (z : Transmission). z.last) v.is)) in absurd (omega (arith, a, h))
      | inr (inr v) ↦ TickFor-keeps x l y tt (ih y v h)
    ]
tick-step l t (Answers c k g) note i y legal ih e h =
    TickFor-keeps (noted t (Answers c k g) note) l y tt (ih y (stays (noted t (Answers c k g) note) l i y tt e) h)
tick-step l t (Shuts c) note i y legal ih e h =
    TickFor-keeps (noted t (Shuts c) note) l y tt (ih y (stays (noted t (Shuts c) note) l i y tt e) h)
tick-step l t Passes note i y legal ih e h =
    let x = noted t Passes note in
    let early = input l i y legal.2.0 (stays x l i y tt e) in
    record {
      tick = length l;
      moment = t;
      note = note;
      stands = at-new x l;
      is_due = h;
      first = rw (before-new x l) early;
      same_step = λ j z lt f. let below = at-below (x ∷ l) j z f in absurd (omega (arith, lt, below));
    }
tick-step l t (Opens c) note i y legal ih e h =
    let a = input l i y legal.2.0 (stays (noted t (Opens c) note) l i y tt e) in absurd (omega (arith, a, h))
tick-step l t (Asks c q) note i y legal ih e h =
    let a = input l i y legal.2.0 (stays (noted t (Asks c q) note) l i y tt e) in absurd (omega (arith, a, h))
tick-step l t (Hears p b) note i y legal ih e h =
    let a = input l i y legal.2.0 (stays (noted t (Hears p b) note) l i y tt e) in absurd (omega (arith, a, h))
tick-step l t (Carries k mark done) note i y legal ih e h =
    absurd (none-some y (sym (copies-way l i legal.2.0) ∙ stays (noted t (Carries k mark done) note) l i y tt e))
tick-step l t Seals note i y legal ih e h =
    let a = input l i y legal.2.0 (stays (noted t Seals note) l i y tt e) in absurd (omega (arith, a, h))

tick-for : (l : List Noted) (i : ℕ) (y : Transmission) → Legal l → transmission l i ≡ Some y → due y ≤ ticked l → TickFor l y
tick-for [] i y legal e h = absurd (none-some y e)
tick-for (x ∷ older) i y legal e h =
    tick-step older x.written.moment x.written.deed x.note i y legal (λ z f g. tick-for older i z legal.0 f g) e h

pub before-twice : (l : List Noted) (n k : ℕ) (x : Noted) → at l n ≡ Some x → k < n → before (before l n) k ≡ before l k
before-twice [] n k x e lt = cc
before-twice (y ∷ older) n k x e lt =
    elim (at-old y older n x e) [
      | inl w ↦ rw (w.0, before-new y older, before-keeps y older k (let a = w.0 in omega (arith, a, lt))) refl
      | inr w ↦
          let below = at-below older n x w in
          rw (before-keeps y older n below, before-keeps y older k (omega (arith, below, lt))) (before-twice older n k x w lt)
    ]

pub at-still : (l : List Noted) (n j : ℕ) (x y : Noted) → at l n ≡ Some x → j < n → at l j ≡ Some y → at (before l n) j ≡ Some y
at-still [] n j x y e lt f = cc
at-still (z ∷ older) n j x y e lt f =
    let below = at-below (z ∷ older) n x e in
    elim (at-old z older j y f) [
      | inl w ↦ let a = w.0 in absurd (omega (arith, a, lt, below))
      | inr old ↦ elim (at-old z older n x e) [
        | inl w ↦ rw (w.0, before-new z older) old
        | inr w ↦ rw (before-keeps z older n (at-below older n x w)) (at-still older n j x y w lt old)
      ]
    ]

pub copied-in-time : (l : List Noted) (n t i : ℕ) (p : Peer) (bytes : List ℕ) (w : Option ℕ) → Legal l
    → at l n ≡ Some (noted t (Sends p bytes w) (Copies i)) → IsInTime l n i
copied-in-time l n t i p bytes w legal e =
    let may : MayBeCopy (before l n) i p bytes = (follows-at l n _ legal e).1.2 in
    let it = tick-for (before l n) i may.way (legal-before l n legal) may.is_outstanding may.is_due in
    let below = at-below (before l n) it.tick _ it.stands in
    let earlier = subst (λ (m : ℕ). it.tick < m) (length-before l n _ e) below in
    record {
      way = may.way;
      is_outstanding = may.is_outstanding;
      tick = it.tick;
      moment = it.moment;
      note = it.note;
      stands = at-before l n it.tick _ it.stands;
      is_due = it.is_due;
      first = subst (λ (b : List Noted). ticked b < due may.way) (before-twice l n it.tick _ e earlier) it.first;
      earlier = earlier;
      same_step = λ j x lt more f. it.same_step j x lt (at-still l n j _ x e more f);
    }
