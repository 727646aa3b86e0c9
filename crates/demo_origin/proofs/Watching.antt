-- Nobody waits in vain, and nobody else is told.
use Rattle.std.proofs.Common.{◌≡◌, ◌⊎◌, inl, inr, ℕ, zero, suc, ◌<◌, List, [], ◌∷◌, set, slice_get, length, length-set, IfSome, Option, Some, None, Bool, true, false, cond, is_some, ◌==◌, ◌||◌, refl, sym, ap, subst, ◌∙◌, arith}
use Rattle.std.specs.List.{list_any}
use Rattle.std.proofs.lemmas.Bool.{and_parts, and_from}
use Rattle.std.proofs.lemmas.Bool.Decides.{Decides-eqb}
use Rattle.uri_map.specs.declared.peer.Peer.{Peer}
use Rattle.demo_origin.specs.Values.{Device}
use Rattle.uri_map.specs.Peers.{same_peer}
use Rattle.demo_origin.specs.Peers.{own_mid}
use Rattle.demo_origin.specs.Notifying.{Talk, talk_of, notified, newer_by, newer, is_waited_for, is_busy, TellsNewer, TellsUnless, TellsOf, TellsFirst, TellsAll}
use Rattle.demo_origin.specs.Told.{IsTold, AllTold, ObserversTold}
use Rattle.demo_origin.specs.declared.state.Held.{Held}
use Rattle.demo_origin.specs.declared.state.Observer.{Observer}

-- ---- lists

or_left : (b c : Bool) → b ≡ true → (b || c) ≡ true
or_left true c e = refl
or_left false c e = cc

-- what passes a test still does where one element is replaced by one that passes it no less
any_set : {X : Type 0} (p : X → Bool) (xs : List X) (i : ℕ) (o x : X)
    → slice_get xs i ≡ Some o → (p o ≡ true → p x ≡ true)
    → list_any p xs ≡ true → list_any p (set xs i x) ≡ true
any_set p [] i o x at more e = cc
any_set {X} p (y ∷ ys) zero o x at more e =
    let same : y ≡ o = cc in
    let P : Bool → Type 0 = λ b. p y ≡ b → (b || list_any p ys) ≡ true
    → (p x || list_any p ys) ≡ true in
    let each : (b : Bool) → P b = λ b. elim b as P [
      | true ↦ λ t h. or_left (p x) (list_any p ys) (more (ap p (sym same) ∙ t))
      | false ↦ λ f h. (let Q : Bool → Type 0 = λ c. (c || list_any p ys) ≡ true in
          elim (p x) as Q [ true ↦ refl | false ↦ h ])
    ] in
    each (p y) refl e
any_set {X} p (y ∷ ys) (suc i) o x at more e =
    let P : Bool → Type 0 = λ b. (b || list_any p ys) ≡ true
    → (b || list_any p (set ys i x)) ≡ true in
    let each : (b : Bool) → P b = λ b. elim b as P [
      | true ↦ λ h. refl
      | false ↦ λ h. any_set p ys i o x at more h
    ] in
    each (p y) e

pub get_set : {X : Type 0} (xs : List X) (i : ℕ) (o x : X)
    → slice_get xs i ≡ Some o → slice_get (set xs i x) i ≡ Some x
get_set [] i o x at = cc
get_set (y ∷ ys) zero o x at = refl
get_set (y ∷ ys) (suc i) o x at = get_set ys i o x at

pub get_other : {X : Type 0} (xs : List X) (i j : ℕ) (x : X)
    → (j ≡ i → ⊥) → slice_get (set xs i x) j ≡ slice_get xs j
get_other [] i j x ne = refl
get_other (y ∷ ys) zero zero x ne = absurd (ne refl)
get_other (y ∷ ys) zero (suc j) x ne = refl
get_other (y ∷ ys) (suc i) zero x ne = refl
get_other (y ∷ ys) (suc i) (suc j) x ne =
    get_other ys i j x (λ e. ne (ap (λ (n : ℕ). suc n) e))

-- ---- one turn

-- who is told of a resource's version was told of its state as it stands
no_newer : (rs : List Held) (o : Observer) (h : Held)
    → newer rs o ≡ Some h → newer_by h.version (slice_get rs o.place) ≡ None
no_newer rs o h e =
    let P : Option Held → Type 0 = λ v.
    newer_by o.told v ≡ Some h → newer_by h.version v ≡ None in
    let Q : Held → Bool → Type 0 = λ g b.
    cond b None (Some g) ≡ Some h → cond (g.version == h.version) None (Some g) ≡ None in
    let told : (g : Held) (b : Bool) → Q g b = λ g b. elim b as (λ b. Q g b) [
      | true ↦ λ f. cc
      | false ↦ λ f. (let same : g ≡ h = cc in
          let R : Bool → Type 0 = λ b. cond b None (Some g) ≡ None in
          let yes : (g.version == h.version) ≡ true =
          (Decides-eqb g.version h.version).1 (ap (λ (x : Held). x.version) same) in
          subst R (sym yes) refl)
    ] in
    let each : (v : Option Held) → P v = λ v. elim v as P [
      | None ↦ λ f. refl
      | Some g ↦ told g (g.version == o.told)
    ] in
    each (slice_get rs o.place) e

-- the first so many are told
abbrev FirstTold : List Held → ℕ → List Observer → Type 0
FirstTold rs n os = (i : ℕ) → i < n → IfSome (slice_get os i) (IsTold rs os)

lt_or_not : (i n : ℕ) → (i < n) ⊎ (i < n → ⊥)
lt_or_not i zero = inr (λ lt. absurd (omega (arith, lt)))
lt_or_not zero (suc n) = inl (omega arith)
lt_or_not (suc i) (suc n) = elim (lt_or_not i n) [
  | inl a ↦ inl (omega (arith, a))
  | inr b ↦ inr (λ lt. b (omega (arith, lt)))
]

last_or_before : (i n : ℕ) → i < suc n → (i < n) ⊎ (i ≡ n)
last_or_before zero zero lt = inr refl
last_or_before zero (suc n) lt = inl (omega arith)
last_or_before (suc i) zero lt = absurd (omega (arith, lt))
last_or_before (suc i) (suc n) lt =
    elim (last_or_before i n (omega (arith, lt))) [
      | inl a ↦ inl (omega (arith, a))
      | inr b ↦ inr (ap (λ (k : ℕ). suc k) b)
    ]

one_more : (rs : List Held) (n : ℕ) (os : List Observer) → FirstTold rs n os
    → IfSome (slice_get os n) (IsTold rs os) → FirstTold rs (suc n) os
one_more rs n os before last i lt =
    let P : ℕ → Type 0 = λ k. IfSome (slice_get os k) (IsTold rs os) in
    elim (last_or_before i n lt) [ inl a ↦ before i a | inr b ↦ subst P (sym b) last ]

-- it stays told where another one is told
stays_told : (rs : List Held) (os : List Observer) (n : ℕ) (o x : Observer)
    → slice_get os n ≡ Some o → x.peer ≡ o.peer → is_some x.outstanding ≡ true
    → (v : Option Observer) → IfSome v (IsTold rs os) → IfSome v (IsTold rs (set os n x))
stays_told rs os n o x at peer some None h = h
stays_told rs os n o x at peer some (Some y) h =
    let same : Peer → Bool = λ q. same_peer q y.peer in
    let more : is_waited_for y.peer o ≡ true → is_waited_for y.peer x ≡ true = λ e.
    (let a = and_parts (same_peer o.peer y.peer) (is_some o.outstanding) e in
    and_from (same_peer x.peer y.peer) (is_some x.outstanding) (ap same peer ∙ a.0) some) in
    elim h as (λ z. IsTold rs (set os n x) y) [
      | inl a ↦ inl a
      | inr b ↦ inr (any_set (is_waited_for y.peer) os n o x at more b)
    ]

-- ---- a round

-- what a turn leaves: those that were told stay so, and this one is told
turn_newer : (t szx i : ℕ) (rs : List Held) (h : Option Held) (o : Observer) (old new : Talk)
    → slice_get old.observers i ≡ Some o → newer rs o ≡ h
    → TellsNewer t szx i h o old new → FirstTold rs i old.observers
    → FirstTold rs (suc i) new.observers
turn_newer t szx i rs None o old new at none e before =
    let P : Talk → Type 0 = λ k. FirstTold rs (suc i) k.observers in
    let Q : Option Observer → Type 0 = λ v. IfSome v (IsTold rs old.observers) in
    let last : IfSome (slice_get old.observers i) (IsTold rs old.observers) =
    subst Q (sym at) (inl none) in
    subst P (sym e) (one_more rs i old.observers before last)
turn_newer t szx i rs (Some h) o old new at some x before =
    let told : Observer = record o {
      told = h.version;
      outstanding = Some (notified t (own_mid o.peer old.clients) x.bytes 0);
    } in
    let os = set old.observers i told in
    let P : Talk → Type 0 = λ k. FirstTold rs (suc i) k.observers in
    let Q : Option Observer → Type 0 = λ v. IfSome v (IsTold rs os) in
    let earlier : FirstTold rs i os = λ j lt.
    (let other : slice_get os j ≡ slice_get old.observers j =
    get_other old.observers i j told (λ e. absurd (omega (arith, e, lt))) in
    subst Q (sym other)
    (stays_told rs old.observers i o told at refl refl
    (slice_get old.observers j) (before j lt))) in
    let last : IfSome (slice_get os i) (IsTold rs os) =
    subst Q (sym (get_set old.observers i o told at)) (inl (no_newer rs o h some)) in
    subst P (sym x.is) (one_more rs i os earlier last)

turn_unless : (b : Bool) (t szx i : ℕ) (rs : List Held) (o : Observer) (old new : Talk)
    → slice_get old.observers i ≡ Some o → is_busy o.peer old.observers ≡ b
    → TellsUnless b t szx rs i o old new → FirstTold rs i old.observers
    → FirstTold rs (suc i) new.observers
turn_unless true t szx i rs o old new at busy e before =
    let P : Talk → Type 0 = λ k. FirstTold rs (suc i) k.observers in
    let Q : Option Observer → Type 0 = λ v. IfSome v (IsTold rs old.observers) in
    let last : IfSome (slice_get old.observers i) (IsTold rs old.observers) =
    subst Q (sym at) (inr busy) in
    subst P (sym e) (one_more rs i old.observers before last)
turn_unless false t szx i rs o old new at free x before =
    turn_newer t szx i rs (newer rs o) o old new at refl x before

turn_of : (t szx i : ℕ) (rs : List Held) (v : Option Observer) (old new : Talk)
    → slice_get old.observers i ≡ v → TellsOf t szx rs i v old new
    → FirstTold rs i old.observers → FirstTold rs (suc i) new.observers
turn_of t szx i rs None old new at e before =
    let P : Talk → Type 0 = λ k. FirstTold rs (suc i) k.observers in
    let Q : Option Observer → Type 0 = λ v. IfSome v (IsTold rs old.observers) in
    subst P (sym e) (one_more rs i old.observers before (subst Q (sym at) tt))
turn_of t szx i rs (Some o) old new at x before =
    turn_unless (is_busy o.peer old.observers) t szx i rs o old new at refl x before

round : (t szx : ℕ) (rs : List Held) (n : ℕ) (old new : Talk)
    → TellsFirst t szx rs n old new → FirstTold rs n new.observers
round t szx rs zero old new e = λ i lt. absurd (omega (arith, lt))
round t szx rs (suc n) old new x =
    turn_of t szx n rs (slice_get x.0.observers n) x.0 new refl x.2 (round t szx rs n old x.0 x.1)

-- ---- there are as many as before

same_length : (t szx i : ℕ) (h : Option Held) (o : Observer) (old new : Talk)
    → TellsNewer t szx i h o old new → length new.observers ≡ length old.observers
same_length t szx i None o old new e = ap (λ (k : Talk). length k.observers) e
same_length t szx i (Some h) o old new x =
    ap (λ (k : Talk). length k.observers) x.is ∙ length-set old.observers i _

length_unless : (b : Bool) (t szx i : ℕ) (rs : List Held) (o : Observer) (old new : Talk)
    → TellsUnless b t szx rs i o old new → length new.observers ≡ length old.observers
length_unless true t szx i rs o old new e = ap (λ (k : Talk). length k.observers) e
length_unless false t szx i rs o old new x = same_length t szx i (newer rs o) o old new x

length_of : (t szx i : ℕ) (rs : List Held) (v : Option Observer) (old new : Talk)
    → TellsOf t szx rs i v old new → length new.observers ≡ length old.observers
length_of t szx i rs None old new e = ap (λ (k : Talk). length k.observers) e
length_of t szx i rs (Some o) old new x =
    length_unless (is_busy o.peer old.observers) t szx i rs o old new x

length_first : (t szx : ℕ) (rs : List Held) (n : ℕ) (old new : Talk)
    → TellsFirst t szx rs n old new → length new.observers ≡ length old.observers
length_first t szx rs zero old new e = ap (λ (k : Talk). length k.observers) e
length_first t szx rs (suc n) old new x =
    length_of t szx n rs (slice_get x.0.observers n) x.0 new x.2
    ∙ length_first t szx rs n old x.0 x.1

past_end : {X : Type 0} (xs : List X) (i : ℕ) → (i < length xs → ⊥) → slice_get xs i ≡ None
past_end [] i h = refl
past_end (x ∷ xs) zero h = absurd (h (omega arith))
past_end (x ∷ xs) (suc i) h = past_end xs i (λ lt. h (omega (arith, lt)))

all_told : (t szx : ℕ) (rs : List Held) (old new : Talk)
    → TellsAll t szx rs old new → AllTold rs new.observers
all_told t szx rs old new x i =
    let first = round t szx rs (length old.observers) old new x in
    let n = length_first t szx rs (length old.observers) old new x in
    let P : Option Observer → Type 0 = λ v. IfSome v (IsTold rs new.observers) in
    elim (lt_or_not i (length old.observers)) [
      | inl a ↦ first i a
      | inr b ↦ subst P (sym (past_end new.observers i (λ lt. b (omega (arith, lt, n))))) tt
    ]

pub observers_told : ObserversTold
observers_told = record {
  settled = λ t old new x.
      (let P : Device → Type 0 = λ s. AllTold s.resources s.observers in
      subst P (sym x.is)
      (all_told t old.block old.resources (talk_of old) x.talk x.tells));
  ticked = λ t old new x.
      (let P : Device → Type 0 = λ s. AllTold s.resources s.observers in
      subst P (sym x.is) (all_told t old.block old.resources x.copied x.told x.tells));
}
