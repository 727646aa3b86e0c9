-- Datagrams are sent one after another.
use Rattle.std.proofs.Common.{◌≡◌, ℕ, ◌+◌, ◌<◌, ◌≤◌, List, [], ◌∷◌, ◌++◌, length, map, take, get_or, append-nil, append_assoc, Option, Some, None, refl, sym, ap, ◌∙◌, arith}
use Rattle.std.proofs.lemmas.List.{take_more}
use Rattle.demo_origin.specs.Origins.{sent_by, sent_out}
use Rattle.demo_origin.specs.Values.{Device}
use Rattle.demo_origin.specs.declared.state.Datagram.{Datagram}
use Rattle.exchange_core.specs.Values.{Outgoing}
use Rattle.gateway_model.specs.declared.input.Output.{Output}
use Rattle.gateway_model.specs.Emissions.{Emission, emission_of, emissions}
use Rattle.gateway_model.specs.Going.{goes_by, goes_in}
use Rattle.three_parties.specs.Arriving.{emptied}
use Rattle.three_parties.specs.Flights.{Going, by_device, by_proxy}
use Rattle.three_parties.proofs.Lists.{taken-all}

-- ---- what the proxy gave out

goes-both : (xs ys : List Emission) → goes_in (xs ++ ys) ≡ goes_in xs ++ goes_in ys
goes-both [] ys = refl
goes-both (x ∷ xs) ys = ap (λ (ds : List Outgoing). goes_by x ++ ds) (goes-both xs ys) ∙ sym (append_assoc (goes_by x) (goes_in xs) (goes_in ys))

emitted-both : {R : Type 0} (xs ys : List (Output R)) → emissions (xs ++ ys) ≡ emissions xs ++ emissions ys
emitted-both [] ys = refl
emitted-both (x ∷ xs) ys = ap (λ (es : List Emission). emission_of x ∷ es) (emitted-both xs ys)

pub mapped-both : {X Y : Type 0} (f : X → Y) (xs ys : List X) → map f (xs ++ ys) ≡ map f xs ++ map f ys
mapped-both f [] ys = refl
mapped-both f (x ∷ xs) ys = ap (λ zs. f x ∷ zs) (mapped-both f xs ys)

-- the datagrams of the first outputs
pub goings : {R : Type 0} → ℕ → List (Output R) → List Going
goings t outputs = map (by_proxy t) (goes_in (emissions outputs))

pub goings-none : {R : Type 0} (t : ℕ) (xs : List (Output R)) (fs : List Going) → fs ≡ fs ++ goings t (take 0 xs)
unfolding goings
goings-none t xs fs = sym (append-nil fs)

pub goings-more : {R : Type 0} (t : ℕ) (xs : List (Output R)) (n : ℕ) (d : Output R) (before after last : List Going) → n < length xs
    → after ≡ before ++ goings t (take n xs) → last ≡ after ++ map (by_proxy t) (goes_by (emission_of (get_or xs n d)))
    → last ≡ before ++ goings t (take (n + 1) xs)
unfolding goings
goings-more t xs n d before after last lt a b =
    b ∙ (ap (λ fs. fs ++ map (by_proxy t) (goes_by (emission_of (get_or xs n d)))) a
    ∙ (append_assoc before (map (by_proxy t) (goes_in (emissions (take n xs)))) (map (by_proxy t) (goes_by (emission_of (get_or xs n d))))
    ∙ ap (λ fs. before ++ fs) (sym step)))
  where
    one : goes_in (emissions (get_or xs n d ∷ [])) ≡ goes_by (emission_of (get_or xs n d))
    one = append-nil (goes_by (emission_of (get_or xs n d)))

    step : map (by_proxy t) (goes_in (emissions (take (n + 1) xs)))
        ≡ map (by_proxy t) (goes_in (emissions (take n xs))) ++ map (by_proxy t) (goes_by (emission_of (get_or xs n d)))
    step =
        ap (λ ys. map (by_proxy t) (goes_in (emissions ys))) (take_more xs n d lt)
        ∙ (ap (λ es. map (by_proxy t) (goes_in es)) (emitted-both (take n xs) (get_or xs n d ∷ []))
        ∙ (ap (map (by_proxy t)) (goes-both (emissions (take n xs)) (emissions (get_or xs n d ∷ [])))
        ∙ (mapped-both (by_proxy t) (goes_in (emissions (take n xs))) (goes_in (emissions (get_or xs n d ∷ [])))
        ∙ ap (λ ds. map (by_proxy t) (goes_in (emissions (take n xs))) ++ map (by_proxy t) ds) one)))

pub goings-all : {R : Type 0} (t : ℕ) (xs : List (Output R)) (n : ℕ) (before after : List Going) → length xs ≤ n
    → after ≡ before ++ goings t (take n xs) → after ≡ before ++ map (by_proxy t) (goes_in (emissions xs))
unfolding goings
goings-all t xs n before after le e =
    e ∙ ap (λ ys. before ++ map (by_proxy t) (goes_in (emissions ys))) (taken-all xs n le)

-- ---- what the device gives out

-- so much of it was given out
pub record Giving (t : ℕ) (start now : Device) (before after : List Going) : Type 0 where
  pub sent : after ++ map (by_device t) now.out ≡ before ++ map (by_device t) start.out
  pub is : now ≡ record start { out = now.out }

pub none-given : (t : ℕ) (s : Device) (flights : List Going) → Giving t s s flights flights
none-given t s flights = record { sent = refl; is = refl }

pub record Given (s n : Device) (d : Datagram) : Type 0 where
  pub front : s.out ≡ d ∷ n.out
  pub rest : n ≡ record s { out = n.out }

given-first : (s n : Device) (ds : List Datagram) (o : Option Datagram) (d : Datagram)
    → s.out ≡ ds → sent_by s ds ≡ (n, o) → o ≡ Some d → Given s n d
given-first s n [] o d e f g =
    let none : None ≡ o = ap (λ (p : Device × Option Datagram). p.1) f in absurd cc
given-first s n (x ∷ xs) o d e f g =
    let some : Some x ≡ o = ap (λ (p : Device × Option Datagram). p.1) f in
    let same : x ≡ d = cc in
    let left : record s { out = xs } ≡ n = ap (λ (p : Device × Option Datagram). p.0) f in
    let outs : xs ≡ n.out = ap (λ (v : Device). v.out) left in
    record {
      front = e ∙ ap (λ (v : Datagram). v ∷ xs) same ∙ ap (λ (v : List Datagram). d ∷ v) outs;
      rest = sym left ∙ ap (λ (v : List Datagram). record s { out = v }) outs;
    }

pub given-one : (s n : Device) (o : Option Datagram) (d : Datagram) → sent_out s ≡ (n, o) → o ≡ Some d → Given s n d
given-one s n o d f g = given-first s n s.out o d refl f g

given-nothing : (s n : Device) (ds : List Datagram) (o : Option Datagram) → s.out ≡ ds → sent_by s ds ≡ (n, o) → o ≡ None → (s.out ≡ []) × (n ≡ s)
given-nothing s n [] o e f g = (e, sym (ap (λ (p : Device × Option Datagram). p.0) f))
given-nothing s n (x ∷ xs) o e f g =
    let some : Some x ≡ o = ap (λ (p : Device × Option Datagram). p.1) f in absurd cc

pub given-none : (s n : Device) (o : Option Datagram) → sent_out s ≡ (n, o) → o ≡ None → (s.out ≡ []) × (n ≡ s)
given-none s n o f g = given-nothing s n s.out o refl f g

pub gives-more : (t : ℕ) (start s n : Device) (before after last : List Going) (d : Datagram) → Giving t start s before after → Given s n d
    → last ≡ after ++ by_device t d ∷ [] → Giving t start n before last
gives-more t start s n before after last d g one e = record {
  sent = ap (λ (fs : List Going). fs ++ map (by_device t) n.out) e
      ∙ (append_assoc after (by_device t d ∷ []) (map (by_device t) n.out)
      ∙ (ap (λ (ds : List Datagram). after ++ map (by_device t) ds) (sym one.front) ∙ g.sent));
  is = one.rest ∙ ap (λ (v : Device). record v { out = n.out }) g.is;
}

pub gives-all : (t : ℕ) (start s : Device) (before after : List Going) → Giving t start s before after → s.out ≡ []
    → (s ≡ emptied start) × (after ≡ before ++ map (by_device t) start.out)
gives-all t start s before after g none = (
  g.is ∙ ap (λ (ds : List Datagram). record start { out = ds }) none,
  sym (append-nil after) ∙ (ap (λ (ds : List Datagram). after ++ map (by_device t) ds) (sym none) ∙ g.sent),
)

pub gives-shorter : (s n : Device) (d : Datagram) → Given s n d → length n.out < length s.out
gives-shorter s n d g = let e = ap length g.front in omega (arith, e)

-- where nothing more is given
pub gave-all : (t : ℕ) (start s n : Device) (o : Option Datagram) (before after : List Going) → Giving t start s before after
    → sent_out s ≡ (n, o) → o ≡ None → (n ≡ emptied start) × (after ≡ before ++ map (by_device t) start.out)
gave-all t start s n o before after g e none =
    let last = given-none s n o e none in
    let all = gives-all t start s before after g last.0 in
    (last.1 ∙ all.0, all.1)
