-- The device is called, and gives datagrams out.
use Rattle.std.proofs.Common.{◌≡◌, ℕ, zero, suc, ◌+◌, ◌<◌, ◌≤◌, inl, inr, List, [], ◌∷◌, ◌++◌, length, length-append, map, append_assoc, Option, Some, None, refl, sym, ap, subst, ◌∙◌, arith}
use Rattle.std.specs.Prelude.{slice_get}
use Rattle.std.specs.List.{Contains}
use Rattle.uri_map.specs.declared.peer.Peer.{Peer}
use Rattle.history_laws.proofs.CallerLemmas.{none-some, some-is}
use Rattle.demo_origin.specs.Calls.{Call, Follow, left_by}
use Rattle.demo_origin.specs.Once.{Event, heard, Steps}
use Rattle.demo_origin.specs.Values.{Device, Relation}
use Rattle.demo_origin.specs.declared.execution.Taken.{Taken}
use Rattle.demo_origin.specs.declared.state.Datagram.{Datagram}
use Rattle.story_laws.specs.Networks.{moment_after, AreTimed}
use Rattle.three_parties.specs.Flights.{Going, ByProxy, ByDevice, by_device, proxy_at}
use Rattle.three_parties.specs.Scenes.{Scene, answered, executed}
use Rattle.three_parties.specs.declared.story.Execution.{Execution}
use Rattle.three_parties.proofs.Calls.{last_moment, follow-both, left-both, timed-both, last-both, gives, gives-follow, gives-left, gives-timed, gives-last, gives-unheard, WasGiven, given-later}
use Rattle.three_parties.proofs.Lists.{got-both, got-front, got-map, got-next}
use Rattle.three_parties.proofs.Tales.{IsBroughtBy, IsDoneBy, IsDone, Tale}
use Rattle.three_parties.proofs.Giving.{brought-later}

-- a call that comes after others, of which so much is known
pub record IsCalled (R : Relation) (s : Scene) (t n : ℕ) (e : Event) (d : Device) (told : Option Taken) : Type 0 where
  pub steps : Steps R e s.device d
  pub moment : (u : ℕ) → moment_after u e ≡ t
  pub brought : (u : ℕ) (p : Peer) (b : List ℕ) (k : Option Taken) → e ≡ heard u p b k → IsBroughtBy s.flights u p b × (k ≡ told)
  pub tells : (x : Taken) → told ≡ Some x → (flight : Going) × (slice_get s.flights n ≡ Some flight) × (flight.by ≡ ByProxy)
      × (e ≡ heard t proxy_at flight.bytes (Some x))

pub told-places : ℕ → Option Taken → List ℕ
told-places a None = []
told-places a (Some x) = a ∷ []

abbrev pub a_call : Event → Device → Device → Call
a_call e old new = record { event = e; before = old; after = new }

executed-len : (t n a : ℕ) (told : Option Taken) → length (told-places a told) ≡ length (executed t n told)
unfolding told-places
executed-len t n a None = refl
executed-len t n a (Some x) = refl

pub record IsTold (t n k : ℕ) (told : Option Taken) (y : Execution) : Type 0 where
  pub here : k ≡ 0
  pub taken : Taken
  pub told_it : told ≡ Some taken
  pub is : y ≡ record { moment = t; number = n; taken = taken }

executed-is : (t n : ℕ) (told : Option Taken) (k : ℕ) (y : Execution) → slice_get (executed t n told) k ≡ Some y → IsTold t n k told y
executed-is t n None k y e = absurd (none-some y e)
executed-is t n (Some x) zero y e = record { here = refl; taken = x; told_it = refl; is = sym (some-is _ y e) }
executed-is t n (Some x) (suc k) y e = absurd (none-some y e)

pub placed-is : (a : ℕ) (told : Option Taken) (k b : ℕ) → slice_get (told-places a told) k ≡ Some b → (k ≡ 0) × (b ≡ a)
unfolding told-places
placed-is a None k b e = absurd (none-some b e)
placed-is a (Some x) zero b e = (refl, sym (some-is a b e))
placed-is a (Some x) (suc k) b e = absurd (none-some b e)

module _ (R : Relation) (first : Device) (s : Scene) (t n : ℕ) (e : Event) (d : Device) (told : Option Taken)
    (le : s.moment ≤ t) (h : Tale R first s) (c : IsCalled R s t n e d told) where
  abbrev more : List Call
  more = a_call e s.device d ∷ gives d d.out

  abbrev all_calls : List Call
  all_calls = h.calls ++ more

  abbrev newest : List ℕ
  newest = told-places (length h.calls) told

  abbrev all_places : List ℕ
  all_places = h.places ++ newest

  abbrev out : List Going
  out = map (by_device t) d.out

  abbrev all_flights : List Going
  all_flights = s.flights ++ out

  abbrev all_taken : List Execution
  all_taken = s.taken ++ executed t n told

  longer : suc (length h.calls) ≤ length all_calls
  longer = let e = length-append h.calls more in omega (arith, e)

  follows : Follow R first all_calls
  follows = follow-both R h.calls more first h.follow
      (subst (λ (x : Device). Follow R x more) (sym h.left) (refl, c.steps, gives-follow R d d.out))

  leaves : left_by first all_calls ≡ record d { out = [] }
  leaves = left-both h.calls more first ∙ gives-left d d.out

  ends : last_moment 0 h.calls ≤ t
  ends = let late = h.late in omega (arith, late, le)

  times : AreTimed 0 all_calls
  times = timed-both h.calls more 0 h.timed (
    subst (λ (u : ℕ). last_moment 0 h.calls ≤ u) (sym (c.moment (last_moment 0 h.calls))) ends,
    gives-timed d d.out (moment_after (last_moment 0 h.calls) e),
  )

  lasts : last_moment 0 all_calls ≡ t
  unfolding last_moment
  lasts = last-both h.calls more 0
      ∙ (gives-last d d.out (moment_after (last_moment 0 h.calls) e) ∙ c.moment (last_moment 0 h.calls))

  -- a new call is this one, or hears nothing
  new-call : (k u : ℕ) (p : Peer) (b : List ℕ) (x : Option Taken) (v : Call) → slice_get more k ≡ Some v → v.event ≡ heard u p b x
      → (k ≡ 0) × (e ≡ heard u p b x)
  new-call zero u p b x v f g = (refl, ap (λ (v : Call). v.event) (some-is (a_call e s.device d) v f) ∙ g)
  new-call (suc k) u p b x v f g = absurd (gives-unheard d d.out k u p b x v f g)

  brings : (a u : ℕ) (p : Peer) (b : List ℕ) (k : Option Taken) (x : Call) → slice_get all_calls a ≡ Some x → x.event ≡ heard u p b k
      → IsBroughtBy all_flights u p b
  brings a u p b k x f g =
      elim (got-both h.calls more a x f) [
        | inl w ↦ brought-later s.flights out u p b (h.brought a u p b k x w g)
        | inr w ↦ brought-later s.flights out u p b (c.brought u p b k (new-call w.0 u p b k x w.2 g).1).0
      ]

  front : left_by first (h.calls ++ a_call e s.device d ∷ []) ≡ d
  front = left-both h.calls (a_call e s.device d ∷ []) first

  given-now : (x : Datagram) → Contains d.out x → WasGiven first all_calls x.peer x.bytes
  given-now x among = record {
    front = h.calls ++ a_call e s.device d ∷ [];
    rest = gives d d.out;
    parts = sym (append_assoc h.calls (a_call e s.device d ∷ []) (gives d d.out));
    datagram = x;
    given = subst (λ (v : Device). Contains v.out x) (sym front) among;
    to = refl;
    has = refl;
  }

  gives-all : (m : ℕ) (g : Going) → slice_get all_flights m ≡ Some g → g.by ≡ ByDevice → WasGiven first all_calls g.peer g.bytes
  gives-all m g f device =
      elim (got-both s.flights out m g f) [
        | inl k ↦ given-later first h.calls more g.peer g.bytes (h.given m g k device)
        | inr k ↦
            let it = got-map (by_device t) d.out k.0 g k.2 in
            subst (λ (g : Going). WasGiven first all_calls g.peer g.bytes) it.2 (given-now it.0 it.1)
      ]

  flies : (m : ℕ) (g : Going) → slice_get all_flights m ≡ Some g → g.moment ≤ t
  flies m g f =
      elim (got-both s.flights out m g f) [
        | inl k ↦ let b = h.before m g k in omega (arith, b, le)
        | inr k ↦ let it = got-map (by_device t) d.out k.0 g k.2 in subst (λ (g : Going). g.moment ≤ t) it.2 (omega arith)
      ]

  -- the new execution has the new place
  new-placed : (x : Taken) → told ≡ Some x → slice_get all_places (length h.places) ≡ Some (length h.calls)
  unfolding told-places
  new-placed x f =
      subst (λ (o : Option Taken). slice_get (h.places ++ told-places (length h.calls) o) (length h.places) ≡ Some (length h.calls)) (sym f)
      (got-next h.places (length h.calls) [])

  does-old : (m : ℕ) (y : Execution) → IsDoneBy s.flights h.calls h.places m y → IsDoneBy all_flights all_calls all_places m y
  does-old m y b = record {
    place = b.place;
    call = b.call;
    placed = got-front h.places newest m b.place b.placed;
    stands = got-front h.calls more b.place b.call b.stands;
    flight = b.flight;
    sent = got-front s.flights out y.number b.flight b.sent;
    by = b.by;
    comes = b.comes;
  }

  does-new : (m k : ℕ) (y : Execution) → m ≡ length s.taken + k → IsTold t n k told y → IsDoneBy all_flights all_calls all_places m y
  does-new m k y is w =
      let it = c.tells w.taken w.told_it in
      let few = h.few in
      let here = w.here in
      let place : length h.places ≡ m = omega (arith, is, here, few) in
      subst (λ (y : Execution). IsDoneBy all_flights all_calls all_places m y) (sym w.is) (record {
        place = length h.calls;
        call = a_call e s.device d;
        placed = subst (λ (m : ℕ). slice_get all_places m ≡ Some (length h.calls)) place (new-placed w.taken w.told_it);
        stands = got-next h.calls (a_call e s.device d) (gives d d.out);
        flight = it.0;
        sent = got-front s.flights out n it.0 it.1;
        by = it.2;
        comes = it.3;
      })

  does : (m : ℕ) (y : Execution) → slice_get all_taken m ≡ Some y → IsDoneBy all_flights all_calls all_places m y
  does m y f =
      elim (got-both s.taken (executed t n told) m y f) [
        | inl k ↦ does-old m y (h.done m y k)
        | inr k ↦ does-new m k.0 y k.1 (executed-is t n told k.0 y k.2)
      ]

  old-done : (a : ℕ) → IsDone s.taken h.places a → IsDone all_taken all_places a
  old-done a b = record {
    number = b.number;
    execution = b.execution;
    stands = got-front s.taken (executed t n told) b.number b.execution b.stands;
    placed = got-front h.places newest b.number a b.placed;
  }

  new-done : (x : Taken) → told ≡ Some x → IsDone all_taken all_places (length h.calls)
  new-done x f = record {
    number = length h.places;
    execution = record { moment = t; number = n; taken = x };
    stands = subst (λ (m : ℕ). slice_get all_taken m ≡ Some (record { moment = t; number = n; taken = x })) (sym h.few)
        (subst (λ (o : Option Taken). slice_get (s.taken ++ executed t n o) (length s.taken) ≡ Some (record { moment = t; number = n; taken = x }))
        (sym f) (got-next s.taken (record { moment = t; number = n; taken = x }) []));
    placed = new-placed x f;
  }

  tells-all : (a u : ℕ) (p : Peer) (b : List ℕ) (x : Taken) (v : Call) → slice_get all_calls a ≡ Some v → v.event ≡ heard u p b (Some x)
      → IsDone all_taken all_places a
  tells-all a u p b x v f g =
      elim (got-both h.calls more a v f) [
        | inl k ↦ old-done a (h.told a u p b x v k g)
        | inr k ↦
            let it = new-call k.0 u p b (Some x) v k.2 g in
            let known = c.brought u p b (Some x) it.1 in
            let here = it.0 in
            let is = k.1 in
            let same : length h.calls ≡ a = omega (arith, is, here) in
            subst (λ (a : ℕ). IsDone all_taken all_places a) same (new-done x (sym known.1))
      ]

  parts : (m b a : ℕ) → slice_get all_places m ≡ Some a → slice_get all_places b ≡ Some a → m ≡ b
  parts m b a f g =
      elim (got-both h.places newest m a f) [
        | inl k ↦ elim (got-both h.places newest b a g) [
          | inl l ↦ h.apart m b a k l
          | inr l ↦ let lt = h.below m a k in let is = (placed-is (length h.calls) told l.0 a l.2).1 in absurd (omega (arith, lt, is))
        ]
        | inr k ↦ elim (got-both h.places newest b a g) [
          | inl l ↦ let lt = h.below b a l in let is = (placed-is (length h.calls) told k.0 a k.2).1 in absurd (omega (arith, lt, is))
          | inr l ↦
              let x = (placed-is (length h.calls) told k.0 a k.2).0 in
              let y = (placed-is (length h.calls) told l.0 a l.2).0 in
              let m_is = k.1 in
              let b_is = l.1 in
              omega (arith, x, y, m_is, b_is)
        ]
      ]

  lies : (m a : ℕ) → slice_get all_places m ≡ Some a → a < length all_calls
  lies m a f =
      let long = longer in
      elim (got-both h.places newest m a f) [
        | inl k ↦ let lt = h.below m a k in omega (arith, lt, long)
        | inr k ↦ let is = (placed-is (length h.calls) told k.0 a k.2).1 in omega (arith, is, long)
      ]

  counts : length all_places ≡ length all_taken
  counts =
      let few = h.few in
      let len = executed-len t n (length h.calls) told in
      let a = length-append h.places newest in
      let b = length-append s.taken (executed t n told) in
      omega (arith, few, len, a, b)

  pub tale-called : Tale R first (answered t d (executed t n told) s)
  tale-called = record {
    calls = all_calls;
    places = all_places;
    follow = follows;
    left = leaves;
    timed = times;
    late = let l = lasts in omega (arith, l);
    before = flies;
    brought = brings;
    given = gives-all;
    heard_it = λ m u b f. given-later first h.calls more proxy_at b (h.heard_it m u b f);
    done = does;
    told = tells-all;
    apart = parts;
    below = lies;
    few = counts;
  }

  pub tale-called-is : (tale-called.calls ≡ all_calls) × (tale-called.places ≡ all_places)
  unfolding tale-called
  tale-called-is = (refl, refl)
