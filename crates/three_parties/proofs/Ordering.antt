-- The order after a call of the device's.
use Rattle.std.proofs.Common.{◌≡◌, ◌⊎◌, ℕ, zero, suc, ◌≤◌, inl, inr, List, [], ◌∷◌, ◌++◌, append-nil, append_assoc, length, length-append, map, take, Option, Some, None, refl, sym, ap, subst, ◌∙◌, arith}
use Rattle.std.specs.Prelude.{slice_get}
use Rattle.uri_map.specs.declared.peer.Peer.{Peer}
use Rattle.journal_book.specs.Entries.{Sends, Hears, Written}
use Rattle.history_laws.proofs.CallerLemmas.{some-is}
use Rattle.history_claims.specs.Headline.{IsEntry}
use Rattle.demo_origin.specs.Calls.{Call}
use Rattle.demo_origin.specs.Done.{told_by, told_in, told_of}
use Rattle.demo_origin.specs.Once.{Event, heard, looked, gave}
use Rattle.demo_origin.specs.Values.{Device, Relation}
use Rattle.demo_origin.specs.declared.execution.Taken.{Taken}
use Rattle.three_parties.specs.Flights.{Going, ByProxy, by_device, device_at, proxy_at}
use Rattle.three_parties.specs.Scenes.{Scene, answered, executed}
use Rattle.three_parties.specs.declared.story.Execution.{Execution}
use Rattle.three_parties.proofs.Calling.{IsCalled, a_call, placed-is, told-places}
use Rattle.three_parties.proofs.Calls.{gives, gives-unheard, given-later, moment_then, told-gives}
use Rattle.three_parties.proofs.Foreign.{IsApart, IsOlder}
use Rattle.three_parties.proofs.Lists.{got-both, got-map, take-front}
use Rattle.three_parties.proofs.Chapters.{Chapter, IsEnteredAs, IsGivenBefore, IsPast, IsSentBefore, past-map, not-both, taken_of}
use Rattle.three_parties.proofs.Orders.{Order, given_in}
use Rattle.three_parties.proofs.Sending.{mapped-both}
use Rattle.three_parties.proofs.Tales.{IsBroughtBy, Tale}

pub told-both : (xs ys : List Call) → told_in (xs ++ ys) ≡ told_in xs ++ told_in ys
told-both [] ys = refl
told-both (x ∷ xs) ys = ap (λ (ts : List Taken). told_by x.event ++ ts) (told-both xs ys) ∙ sym (append_assoc (told_by x.event) (told_in xs) (told_in ys))

pub take-within : {X : Type 0} (xs ys : List X) (n : ℕ) → n ≤ length xs → take n (xs ++ ys) ≡ take n xs
take-within [] [] zero le = refl
take-within [] (y ∷ ys) zero le = refl
take-within [] ys (suc n) le = absurd (omega (arith, le))
take-within (x ∷ xs) ys zero le = refl
take-within (x ∷ xs) ys (suc n) le = ap (λ zs. x ∷ zs) (take-within xs ys n (omega (arith, le)))

taken-is : (t n : ℕ) (told : Option Taken) → map taken_of (executed t n told) ≡ told_of told
taken-is t n None = refl
taken-is t n (Some x) = refl

module _ (R : Relation) (first : Device) (s : Scene) (t n : ℕ) (e : Event) (d : Device) (told : Option Taken)
    (h : Tale R first s) (c : IsCalled R s t n e d told) (o : Order first s h.calls h.places) where
  abbrev more : List Call
  more = a_call e s.device d ∷ gives d d.out

  abbrev all_calls : List Call
  all_calls = h.calls ++ more

  abbrev newest : List ℕ
  newest = told-places (length h.calls) told

  longer : length h.calls ≤ length all_calls
  longer = let a = length-append h.calls more in omega (arith, a)

  told-by-call : told_by e ≡ told_of told
  told-by-call = by e refl
    where
      none : (v : Event) → e ≡ v → ((x : Taken) (b : List ℕ) → v ≡ heard t proxy_at b (Some x) → ⊥) → (k : Option Taken) → told ≡ k → told_of k ≡ []
      none v is not None f = refl
      none v is not (Some x) f = let it = c.tells x f in absurd (not x it.0.bytes (sym is ∙ it.3))

      looked-not : (u : ℕ) (x : Taken) (b : List ℕ) → looked u ≡ heard t proxy_at b (Some x) → ⊥
      looked-not u x b e = cc

      gave-not : (x : Taken) (b : List ℕ) → gave ≡ heard t proxy_at b (Some x) → ⊥
      gave-not x b e = cc

      by : (v : Event) → e ≡ v → told_by v ≡ told_of told
      by (heard u p b k) is = ap told_of (c.brought u p b k is).1
      by (looked u) is = sym (none (looked u) is (looked-not u) told refl)
      by gave is = sym (none gave is gave-not told refl)

  told-now : told_in more ≡ told_of told
  told-now = ap (λ (ts : List Taken). told_by e ++ ts) (told-gives d d.out) ∙ (append-nil (told_by e) ∙ told-by-call)

  tells-all : told_in all_calls ≡ map taken_of (s.taken ++ executed t n told)
  tells-all =
      told-both h.calls more
      ∙ (ap (λ (ts : List Taken). ts ++ told_in more) o.tells
      ∙ (ap (λ (ts : List Taken). map taken_of s.taken ++ ts) (told-now ∙ sym (taken-is t n told))
      ∙ sym (mapped-both taken_of s.taken (executed t n told))))

  map-len : (ys : List Execution) → length (map taken_of ys) ≡ length ys
  map-len [] = refl
  map-len (y ∷ ys) = ap suc (map-len ys)

  ranked : (m a : ℕ) → slice_get (h.places ++ newest) m ≡ Some a → length (told_in (take a all_calls)) ≡ m
  ranked m a f =
      elim (got-both h.places newest m a f) [
        | inl k ↦
            let lt = h.below m a k in
            ap (λ (cs : List Call). length (told_in cs)) (take-within h.calls more a (omega (arith, lt))) ∙ o.ranks m a k
        | inr k ↦
            let is = placed-is (length h.calls) told k.0 a k.2 in
            let here = is.0 in
            let at = k.1 in
            let few = h.few in
            let len : length (told_in h.calls) ≡ length s.taken = ap length o.tells ∙ map-len s.taken in
            ap (λ (i : ℕ). length (told_in (take i all_calls))) is.1
            ∙ (ap (λ (cs : List Call). length (told_in cs)) (take-front h.calls more) ∙ omega (arith, here, at, few, len))
      ]

-- A journal after the call.
module _ (R : Relation) (first : Device) (s : Scene) (t n : ℕ) (e : Event) (d : Device) (told : Option Taken)
    (h : Tale R first s) (c : IsCalled R s t n e d told) (Q : List ℕ → Type 0) (begun : ℕ) (w : List Written) (o : Chapter Q begun first s.flights h.calls w) where
  abbrev then_calls : List Call
  then_calls = h.calls ++ a_call e s.device d ∷ gives d d.out

  pub tops : (i a : ℕ) → slice_get o.counts i ≡ Some a → a ≤ length then_calls
  tops i a f =
      let long = length-append h.calls (a_call e s.device d ∷ gives d d.out) in
      let top = o.most i a f in
      omega (arith, top, long)

  pub enters : (m : ℕ) (g : Going) → slice_get (s.flights ++ map (by_device t) d.out) m ≡ Some g → g.by ≡ ByProxy
      → IsEnteredAs w o.counts g ⊎ Q g.bytes
  enters m g f by =
      elim (got-both s.flights (map (by_device t) d.out) m g f) [
        | inl k ↦ o.entered m g k by
        | inr k ↦
            let it = got-map (by_device t) d.out k.0 g k.2 in
            absurd (not-both g.by by (sym (ap (λ (g : Going). g.by) it.2)))
      ]

  brought-now : (a u : ℕ) (p : Peer) (b : List ℕ) → length h.calls ≤ a → IsBroughtBy s.flights u p b → IsSentBefore w o.counts a u b ⊎ Q b
  brought-now a u p b le x =
      elim (o.entered x.number x.flight x.stands x.by) [
        | inl it ↦
            let top = o.most it.number it.count it.counted in
            inl (record {
              number = it.number;
              moment = x.flight.moment;
              timeout = it.timeout;
              stands = subst (λ (b : List ℕ). IsEntry w it.number x.flight.moment (Sends device_at b it.timeout)) x.bytes
                  (subst (λ (q : Peer). IsEntry w it.number x.flight.moment (Sends q x.flight.bytes it.timeout)) x.to it.stands);
              after = x.after;
              within = x.within;
              count = it.count;
              counted = it.counted;
              before = omega (arith, le, top);
            })
        | inr other ↦ inr (subst Q x.bytes other)
      ]

  pub sent-before : (a u : ℕ) (p : Peer) (b : List ℕ) (k : Option Taken) (v : Call) → slice_get then_calls a ≡ Some v → v.event ≡ heard u p b k
      → IsSentBefore w o.counts a u b ⊎ Q b
  sent-before a u p b k v f g =
      elim (got-both h.calls (a_call e s.device d ∷ gives d d.out) a v f) [
        | inl x ↦ o.sent_first a u p b k v x g
        | inr x ↦ let is = x.1 in brought-now a u p b (omega (arith, is)) (c.brought u p b k (new-call x.0 x.2)).0
      ]
    where
      new-call : (i : ℕ) → slice_get (a_call e s.device d ∷ gives d d.out) i ≡ Some v → e ≡ heard u p b k
      new-call zero f = ap (λ (v : Call). v.event) (some-is (a_call e s.device d) v f) ∙ g
      new-call (suc i) f = absurd (gives-unheard d d.out i u p b k v f g)

  pub given-before : (m u : ℕ) (bytes : List ℕ) → IsEntry w m u (Hears device_at bytes) → IsGivenBefore first then_calls o.counts m u bytes
  given-before m u bytes f =
      let it = o.heard_after m u bytes f in
      let most = o.most m it.count it.counted in
      let by = it.by in
      record {
        given = given-later first h.calls (a_call e s.device d ∷ gives d d.out) proxy_at bytes it.given;
        count = it.count;
        counted = it.counted;
        before = it.before;
        by = subst (λ (cs : List Call). moment_then 0 cs ≤ u) (sym (take-within h.calls (a_call e s.device d ∷ gives d d.out) it.count most)) by;
      }

  abbrev pub chapter-called : Chapter Q begun first (s.flights ++ map (by_device t) d.out) then_calls w
  chapter-called = record {
    counts = o.counts;
    whole = o.whole;
    rising = o.rising;
    started = let long = length-append h.calls (a_call e s.device d ∷ gives d d.out) in let start = o.started in omega (arith, long, start);
    least = o.least;
    most = tops;
    entered = enters;
    sent_first = sent-before;
    heard_after = given-before;
  }

module _ (R : Relation) (first : Device) (s : Scene) (t n : ℕ) (e : Event) (d : Device) (told : Option Taken)
    (h : Tale R first s) (c : IsCalled R s t n e d told) (o : Order first s h.calls h.places) where
  abbrev past-called : (w : List Written) → IsPast first s.flights h.calls o.lo w
      → IsPast first (s.flights ++ map (by_device t) d.out) (h.calls ++ a_call e s.device d ∷ gives d d.out) o.lo w
  past-called w p = record {
    lo = p.lo;
    hi = p.hi;
    below = p.below;
    stands = p.stands;
    issued = p.issued;
    begun = p.begun;
    ended = p.ended;
    within = p.within;
    chapter = chapter-called R first s t n e d told h c (IsApart p.lo p.hi) p.begun w p.chapter;
    upto = p.upto;
  }

  pub order-called : Order first (answered t d (executed t n told) s) (h.calls ++ a_call e s.device d ∷ gives d d.out)
      (h.places ++ told-places (length h.calls) told)
  order-called = record {
    lo = o.lo;
    issued = o.issued;
    begun = o.begun;
    now = chapter-called R first s t n e d told h c (IsOlder o.lo) o.begun s.world.core.state.entries o.now;
    past = past-map first s.flights (s.flights ++ map (by_device t) d.out) h.calls (h.calls ++ a_call e s.device d ∷ gives d d.out) o.lo o.lo
        (λ w p. (past-called w p, refl, refl)) 0 o.begun (given_in s.out) o.past;
    tells = tells-all R first s t n e d told h c o;
    ranks = ranked R first s t n e d told h c o;
  }
