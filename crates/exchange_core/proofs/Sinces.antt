-- Exchanges stand in the order in which they were opened, so the first is late first.
use Rattle.history_links.specs.Agrees.{Start}
use Rattle.std.proofs.Common.{◌≡◌, ℕ, zero, suc, ◌+◌, ◌<◌, ◌≤◌, inl, inr, true, false, List, [], ◌∷◌, ◌++◌, append-nil, drop, length, get_or, map, min, Option, Some, refl, sym, ap, ◌∙◌, subst, arith}
use Rattle.std.specs.Prelude.{filter}
use Rattle.std.specs.List.{AllByRecursion}
use Rattle.std.proofs.lemmas.Bool.{false≢true, le-leb}
use Rattle.std.proofs.lemmas.Bool.Decides.{eqb_tells, leb_tells}
use Rattle.limits.specs.declared.TheConstants.{MAX_TRANSMIT_WAIT}
use Rattle.history_laws.specs.Readings.{Noted, at, newest}
use Rattle.history_laws.specs.Exchanges.{openings, is_going}
use Rattle.history_laws.specs.Justified.{Legal}
use Rattle.history_laws.proofs.CallerLemmas.{at-below, at-newest, openings-rising, Rising, rising-filter, some-is, begun-opening}
use Rattle.exchange_model.specs.declared.kept.Exchange.{Exchange}
use Rattle.exchange_model.specs.State.{State}
use Rattle.exchange_model.specs.Reads.{ExchangeIn, opening_of}
use Rattle.exchange_model.specs.Due.{earlier, earliest, deadline}
use Rattle.exchange_model.specs.Keeping.{Kept}
use Rattle.exchange_model.specs.Hearing.{is_past}
use Rattle.exchange_core.specs.Places.{OpenLater}
use Rattle.exchange_core.proofs.TickDue.{earlier-assoc}

at-later : (l : List Noted) (n m : ℕ) (x y : Noted) → Legal l → at l n ≡ Some x → at l m ≡ Some y → n < m → x.written.moment ≤ y.written.moment
at-later [] n m x y legal e f lt = absurd cc
at-later (z ∷ older) n m x y legal e f lt = elim (eqb_tells m (length older)) [
  | inl w ↦
      let same = some-is z y (rw (w.0) at f) in
      let mine : z.written.moment ≡ y.written.moment = ap (λ (v : Noted). v.written.moment) same in
      let last = w.1 in
      let later : newest older ≤ z.written.moment = legal.1 in
      elim (eqb_tells n (length older)) [
        | inl v ↦ let here = v.1 in absurd (omega (arith, here, last, lt))
        | inr v ↦
            let before : x.written.moment ≤ newest older = at-newest older n x legal.0 (rw (v.0) at e) in
            omega (arith, before, later, mine)
      ]
  | inr w ↦
      let old : at older m ≡ Some y = rw (w.0) at f in
      elim (eqb_tells n (length older)) [
        | inl v ↦ let here = v.1 in let below = at-below older m y old in absurd (omega (arith, here, below, lt))
        | inr v ↦ at-later older n m x y legal.0 (rw (v.0) at e) old lt
      ]
]

later-sinces : (start : Start) (l : List Noted) (e : Exchange) (es : List Exchange) → Legal l → ExchangeIn start l e
    → AllByRecursion (λ (o : ℕ). e.opening < o) (map opening_of es) → AllByRecursion (ExchangeIn start l) es
    → AllByRecursion (λ (f : Exchange). e.since ≤ f.since) es
later-sinces start l e [] legal i above all = tt
later-sinces start l e (f ∷ fs) legal i above all =
    (at-later l e.opening f.opening _ _ legal (begun-opening l e.opening _ i.opening).2 (begun-opening l f.opening _ all.0.opening).2 above.0, later-sinces start l e fs legal i above.1 all.1)

by-opening : (start : Start) (l : List Noted) (es : List Exchange) → Legal l → Rising (map opening_of es) → AllByRecursion (ExchangeIn start l) es → OpenLater es
by-opening start l [] legal r all = tt
by-opening start l (e ∷ es) legal r all = (later-sinces start l e es legal all.0 r.0 all.1, by-opening start l es legal r.1 all.1)

pub open-later : (S : State) → Kept S → OpenLater S.exchanges
open-later S k =
    let l = k.reading in
    let r = k.rests.reads in
    by-opening r.start l S.exchanges r.legal (subst Rising r.keys (rising-filter (is_going l) (openings l) (openings-rising l))) r.exchanges_are

lesser : (a b : ℕ) → a ≤ b → Some (min a b) ≡ Some a
lesser a b le = let e : min a b ≡ a = omega (arith, le) in ap Some e

first-before : (a : ℕ) (es : List Exchange) → AllByRecursion (λ (f : Exchange). a ≤ f.since) es → earlier (Some (a + MAX_TRANSMIT_WAIT)) (earliest deadline es) ≡ Some (a + MAX_TRANSMIT_WAIT)
first-before a [] h = refl
first-before a (f ∷ fs) h =
    let le = h.0 in
    sym (earlier-assoc (Some (a + MAX_TRANSMIT_WAIT)) (deadline f) (earliest deadline fs))
    ∙ ap (λ (o : Option ℕ). earlier o (earliest deadline fs)) (lesser (a + MAX_TRANSMIT_WAIT) (f.since + MAX_TRANSMIT_WAIT) (omega (arith, le)))
    ∙ first-before a fs h.1

pub first-due : (e : Exchange) (es : List Exchange) → OpenLater (e ∷ es) → earliest deadline (e ∷ es) ≡ Some (e.since + MAX_TRANSMIT_WAIT)
first-due e es h = first-before e.since es h.0

pub first-late : (es : List Exchange) (d : Exchange) → 1 ≤ length es → OpenLater es → Some ((get_or es 0 d).since + MAX_TRANSMIT_WAIT) ≡ earliest deadline es
first-late [] d le h = absurd (omega (arith, le))
first-late (e ∷ es) d le h = sym (first-due e es h)

-- Behind one that isn't late none is.

not-past : (t : ℕ) (e f : Exchange) → e.since ≤ f.since → is_past t e ≡ false → is_past t f ≡ false
not-past t e f le young = elim (leb_tells (f.since + MAX_TRANSMIT_WAIT) t) [
  | inl w ↦ absurd (let late = w.1 in false≢true (sym young ∙ le-leb (e.since + MAX_TRANSMIT_WAIT) t (omega (arith, late, le))))
  | inr w ↦ w.0
]

none-later : (t : ℕ) (e : Exchange) (es : List Exchange) → AllByRecursion (λ (f : Exchange). e.since ≤ f.since) es → is_past t e ≡ false → filter (is_past t) es ≡ []
none-later t e [] later young = refl
none-later t e (f ∷ fs) later young = rw (not-past t e f later.0 young) (none-later t e fs later.1 young)

none-past : (t : ℕ) (es : List Exchange) (i : ℕ) (e : Exchange) → OpenLater es → i < length es → e ≡ get_or es i e → is_past t e ≡ false → filter (is_past t) (drop i es) ≡ []
none-past t [] i e opened lt is young = absurd (omega (arith, lt))
none-past t (x ∷ xs) zero e opened lt is young =
    let here : is_past t x ≡ false = subst (λ (y : Exchange). is_past t y ≡ false) is young in
    rw (here) (none-later t x xs opened.0 here)
none-past t (x ∷ xs) (suc i) e opened lt is young = none-past t xs i e opened.1 (omega (arith, lt)) is young

pub past-front : (t : ℕ) (es : List Exchange) (i : ℕ) (e : Exchange) (past : List Exchange) → OpenLater es → i < length es → e ≡ get_or es i e → is_past t e ≡ false
    → past ++ filter (is_past t) (drop i es) ≡ filter (is_past t) es → past ≡ filter (is_past t) es
past-front t es i e past opened lt is young all =
    sym (append-nil past) ∙ ap (λ (fs : List Exchange). past ++ fs) (sym (none-past t es i e opened lt is young)) ∙ all
