-- Turns put together.
use Rattle.std.proofs.Common.{◌≡◌, zero, suc, ℕ, ◌+◌, ◌≤◌, List, [], ◌∷◌, ◌++◌, length, length-append, sum_by, flat_map, append-nil, append_assoc, Option, Some, None, Bool, true, false, ◌&&◌, cond, refl, sym, ap, subst, ◌∙◌, arith}
use Rattle.std.proofs.lemmas.Grind.{flat_map-append}
use Rattle.std.proofs.lemmas.List.Sums.{sum_by_push}
use Rattle.demo_origin.specs.Values.{Device, Relation}
use Rattle.demo_origin.specs.Origins.{sent_by, sent_out}
use Rattle.demo_origin.specs.declared.state.Datagram.{Datagram}
use Rattle.device_server.specs.Sending.{emptied}
use Rattle.device_server.specs.Turns.{Grown, GrownByOne, Turn, Takes, TakesAll, told_in, came_in, sent_in, missed, missed_in, GoesOn, GoesThrough}
use Rattle.device_server.specs.declared.turns.Served.{Served}
use Rattle.device_server.specs.declared.turns.Turned.{Turned}

-- ---- what is known

pub grown_join : {X : Type 0} (a b c : Option (List X)) (p q : List X)
    → Grown a b p → Grown b c q → Grown a c (p ++ q)
grown_join None b c p q g h = tt
grown_join (Some x) None c p q g h = absurd g
grown_join (Some x) (Some y) None p q g h = absurd h
grown_join {X} (Some x) (Some y) (Some z) p q g h =
    h ∙ ap (λ (s : List X). s ++ q) g ∙ append_assoc x p q

pub grown_none : {X : Type 0} (a : Option (List X)) → Grown a a []
grown_none None = tt
grown_none (Some x) = sym (append-nil x)

pub grown_same : {X : Type 0} (a b : Option (List X)) → b ≡ a → Grown a b []
grown_same {X} a b e =
    let P : Option (List X) → Type 0 = λ o. Grown a o [] in subst P (sym e) (grown_none a)

pub by_none : {X : Type 0} (a b : Option (List X)) → b ≡ a → GrownByOne a b
by_none a b e = record { more = []; grown = grown_same a b e; few = omega arith }

-- ---- what is given out

-- so much of it was given out
pub record Giving (start now : Device) (sent sent_now : Option (List Datagram)) : Type 0 where
  pub given : List Datagram
  pub parts : given ++ now.out ≡ start.out
  pub is : now ≡ record start { out = now.out }
  pub grown : Grown sent sent_now given

pub none_given : (s : Device) (sent : Option (List Datagram)) → Giving s s sent sent
none_given s sent =
    record { given = []; parts = refl; is = refl; grown = grown_none sent }

pub record Given (s n : Device) (d : Datagram) : Type 0 where
  pub front : s.out ≡ d ∷ n.out
  pub rest : n ≡ record s { out = n.out }

given_first : (s n : Device) (ds : List Datagram) (o : Option Datagram) (d : Datagram)
    → s.out ≡ ds → sent_by s ds ≡ (n, o) → o ≡ Some d → Given s n d
given_first s n [] o d e f g =
    let none : None ≡ o = ap (λ (p : Device × Option Datagram). p.1) f in absurd cc
given_first s n (x ∷ xs) o d e f g =
    let some : Some x ≡ o = ap (λ (p : Device × Option Datagram). p.1) f in
    let same : x ≡ d = cc in
    let left : record s { out = xs } ≡ n = ap (λ (p : Device × Option Datagram). p.0) f in
    let outs : xs ≡ n.out = ap (λ (v : Device). v.out) left in
    record {
      front = e ∙ ap (λ (v : Datagram). v ∷ xs) same ∙ ap (λ (v : List Datagram). d ∷ v) outs;
      rest = sym left ∙ ap (λ (v : List Datagram). record s { out = v }) outs;
    }

pub given_one : (s n : Device) (o : Option Datagram) (d : Datagram)
    → sent_out s ≡ (n, o) → o ≡ Some d → Given s n d
given_one s n o d f g = given_first s n s.out o d refl f g

given_nothing : (s n : Device) (ds : List Datagram) (o : Option Datagram)
    → s.out ≡ ds → sent_by s ds ≡ (n, o) → o ≡ None → (s.out ≡ []) × (n ≡ s)
given_nothing s n [] o e f g = (e, sym (ap (λ (p : Device × Option Datagram). p.0) f))
given_nothing s n (x ∷ xs) o e f g =
    let some : Some x ≡ o = ap (λ (p : Device × Option Datagram). p.1) f in absurd cc

pub given_none : (s n : Device) (o : Option Datagram)
    → sent_out s ≡ (n, o) → o ≡ None → (s.out ≡ []) × (n ≡ s)
given_none s n o f g = given_nothing s n s.out o refl f g

pub gives_more : (start s n : Device) (a b c : Option (List Datagram)) (d : Datagram)
    → Giving start s a b → Given s n d → Grown b c (d ∷ []) → Giving start n a c
gives_more start s n a b c d x y h =
    record {
      given = x.given ++ d ∷ [];
      parts = append_assoc x.given (d ∷ []) n.out
          ∙ ap (λ (v : List Datagram). x.given ++ v) (sym y.front) ∙ x.parts;
      is = y.rest ∙ ap (λ (v : Device). record v { out = n.out }) x.is;
      grown = grown_join a b c x.given (d ∷ []) x.grown h;
    }

pub all_given : (start s n : Device) (a b : Option (List Datagram))
    → Giving start s a b → (s.out ≡ []) × (n ≡ s)
    → (n ≡ emptied start) × Grown a b start.out
all_given start s n a b x y =
    let all : x.given ≡ start.out =
    sym (append-nil x.given) ∙ ap (λ (v : List Datagram). x.given ++ v) (sym y.0) ∙ x.parts in
    let P : List Datagram → Type 0 = λ v. Grown a b v in (
      y.1 ∙ x.is ∙ ap (λ (v : List Datagram). record start { out = v }) y.0,
      subst P all x.grown,
    )

-- ---- one turn more

takes_more : (R : Relation) (us : List Turn) (u : Turn) (old mid new : Device)
    → TakesAll R us old mid → Takes R u mid new → TakesAll R (us ++ u ∷ []) old new
takes_more R [] u old mid new h k =
    let P : Device → Type 0 = λ d. Takes R u d new in (new, subst P h k, refl)
takes_more R (x ∷ us) u old mid new h k =
    (h.0, h.1, takes_more R us u h.0 mid new h.2 k)

pub few : (t : Turned) → missed t ≤ 1
few t =
    let P : Bool → Type 0 = λ b. cond b 0 1 ≤ 1 in
    elim (t.hears && t.looks) as P [ true ↦ omega arith | false ↦ omega arith ]

-- what so many turns leave, with nothing left over
pub record Goes (R : Relation) (n m : ℕ) (old new : Device)
    (told told_now : Option (List ℕ)) (came came_now sent sent_now : Option (List Datagram))
    : Type 0 where
  pub turns : List Turn
  pub count : length turns ≡ n
  pub missed_is : sum_by missed_in turns ≡ m
  pub takes : TakesAll R turns old new
  pub tells : Grown told told_now (flat_map told_in turns)
  pub brings : Grown came came_now (flat_map came_in turns)
  pub sends : Grown sent sent_now (flat_map sent_in turns)

pub goes_nowhere : (R : Relation) (s : Device) (told : Option (List ℕ))
    (came sent : Option (List Datagram)) → Goes R 0 0 s s told told came came sent sent
goes_nowhere R s told came sent = record {
  turns = [];
  count = refl;
  missed_is = refl;
  takes = refl;
  tells = grown_none told;
  brings = grown_none came;
  sends = grown_none sent;
}

joined : {X : Type 0} (f : Turn → List X) (us : List Turn) (u : Turn) (xs : List X)
    (a b c : Option (List X)) → xs ≡ f u → Grown a b (flat_map f us) → Grown b c xs
    → Grown a c (flat_map f (us ++ u ∷ []))
joined {X} f us u xs a b c e g h =
    let P : List X → Type 0 = λ v. Grown a c v in
    let is : flat_map f us ++ xs ≡ flat_map f (us ++ u ∷ []) =
    ap (λ (v : List X). flat_map f us ++ v) (e ∙ sym (append-nil (f u)))
    ∙ sym (flat_map-append f us (u ∷ [])) in
    subst P is (grown_join a b c (flat_map f us) xs g h)

pub goes_further : (R : Relation) (n m k : ℕ) (turned : Turned) (old mid new : Device)
    (told told_mid told_now : Option (List ℕ))
    (came came_mid came_now sent sent_mid sent_now : Option (List Datagram))
    → Goes R n m old mid told told_mid came came_mid sent sent_mid
    → GoesOn R turned mid new told_mid told_now came_mid came_now sent_mid sent_now
    → k ≡ m + missed turned
    → Goes R (n + 1) k old new told told_now came came_now sent sent_now
goes_further R n m k turned old mid new t t1 t2 c c1 c2 s s1 s2 x y e =
    let u = y.turn in
    let cost : missed_in u ≡ missed turned = ap (λ (v : Turned). missed v) y.turned_is in
    record {
      turns = x.turns ++ u ∷ [];
      count = length-append x.turns (u ∷ []) ∙ ap (λ (v : ℕ). v + 1) x.count;
      missed_is = sum_by_push missed_in x.turns u
          ∙ ap (λ (v : ℕ). v + missed_in u) x.missed_is
          ∙ ap (λ (v : ℕ). m + v) cost ∙ sym e;
      takes = takes_more R x.turns u old mid new x.takes y.takes;
      tells = joined told_in x.turns u (told_in u) t t1 t2 refl x.tells y.tells;
      brings = joined came_in x.turns u (came_in u) c c1 c2 refl x.brings y.brings;
      sends = joined sent_in x.turns u u.sent s s1 s2 refl x.sends y.sends;
    }

-- all turns were made
pub goes_whole : (R : Relation) (asked n m : ℕ) (old new : Device) (told told_now : Option (List ℕ))
    (came came_now sent sent_now : Option (List Datagram))
    → Goes R n m old new told told_now came came_now sent sent_now → n ≡ asked
    → GoesThrough R asked (record { turns = asked; missed = m }) old new
    told told_now came came_now sent sent_now
goes_whole R asked n m old new t t1 c c1 s s1 x e =
    let P : List ℕ → Type 0 = λ v. Grown t t1 v in
    let Q : List Datagram → Type 0 = λ v. Grown c c1 v in
    record {
      turns = x.turns;
      count = x.count ∙ e;
      missed_is = x.missed_is;
      takes = x.takes;
      late = [];
      lost = [];
      tells = subst P (sym (append-nil (flat_map told_in x.turns))) x.tells;
      brings = subst Q (sym (append-nil (flat_map came_in x.turns))) x.brings;
      sends = x.sends;
      few = (omega arith, omega arith);
      whole = λ all. (refl, refl);
    }

-- the clock or the wire failed in the turn after these
pub goes_partly : (R : Relation) (asked n m : ℕ) (old mid new : Device)
    (told told_mid told_now : Option (List ℕ))
    (came came_mid came_now sent sent_mid sent_now : Option (List Datagram))
    → Goes R n m old mid told told_mid came came_mid sent sent_mid → suc n ≤ asked
    → new ≡ mid → sent_now ≡ sent_mid → GrownByOne told_mid told_now
    → GrownByOne came_mid came_now
    → GoesThrough R asked (record { turns = n; missed = m }) old new
    told told_now came came_now sent sent_now
goes_partly R asked n m old mid new t t1 t2 c c1 c2 s s1 s2 x lt same quiet late lost =
    let P : Device → Type 0 = λ d. TakesAll R x.turns old d in
    let S : Option (List Datagram) → Type 0 = λ o. Grown s o (flat_map sent_in x.turns) in
    record {
      turns = x.turns;
      count = x.count;
      missed_is = x.missed_is;
      takes = subst P (sym same) x.takes;
      late = late.more;
      lost = lost.more;
      tells = grown_join t t1 t2 (flat_map told_in x.turns) late.more x.tells late.grown;
      brings = grown_join c c1 c2 (flat_map came_in x.turns) lost.more x.brings lost.grown;
      sends = subst S (sym quiet) x.sends;
      few = (late.few, lost.few);
      whole = λ all. absurd (omega (arith, all, lt));
    }
