-- What a resource holds is what the executions told that they left.
use Rattle.std.proofs.Common.{◌≡◌, inl, inr, ℕ, zero, suc, List, [], ◌∷◌, ◌++◌, length-set, take, set, slice_get, get_or, position, Option, Some, Bool, true, false, cond, ◌==◌, refl, sym, ap, subst, ◌∙◌, arith}
use Rattle.std.specs.Cmp.Lexicographic.{pointwise}
use Rattle.std.proofs.lemmas.Bool.{false_from_ne_true}
use Rattle.std.proofs.lemmas.Bool.Decides.{Decides-eqb}
use Rattle.std.proofs.lemmas.List.Folds.{position_or_len-set}
use Rattle.std.proofs.lemmas.List.Quantifiers.{position-Some}
use Rattle.std.proofs.lemmas.Slice.Eq.{slice_eq-Decides}
use Rattle.uri_map.specs.declared.peer.Peer.{Peer}
use Rattle.coap_codec.specs.Values.{values}
use Rattle.demo_origin.specs.Values.{Device, Relation}
use Rattle.demo_origin.specs.Calls.{Call, Follow}
use Rattle.demo_origin.specs.Done.{TellsOf, ExecutionsTell, told_of, told_by, told_in, is_of, left_with, GoOn, HoldsLeft, StatesAreTold}
use Rattle.demo_origin.specs.Hearing.{is_change, stated}
use Rattle.demo_origin.specs.Once.{Event, heard, looked, gave, Steps}
use Rattle.demo_origin.specs.Requests.{is_at, IsAt, method_code}
use Rattle.demo_origin.specs.Versions.{IsLater}
use Rattle.demo_origin.specs.declared.execution.Taken.{Taken}
use Rattle.demo_origin.specs.declared.request.Method.{Method}
use Rattle.demo_origin.specs.declared.state.Held.{Held}
use Rattle.demo_origin.proofs.Acting.{Did, Acts, acts, nothing}
use Rattle.demo_origin.proofs.Alls.{get_or_of}
use Rattle.demo_origin.proofs.Saying.{same_or_not}
use Rattle.demo_origin.proofs.Judging.{is_left}
use Rattle.demo_origin.proofs.Versioning.{itself, later_on, kept_state, stated_later, gives}
use Rattle.demo_origin.proofs.Watching.{get_set, get_other}

-- ---- the resource of a path

same_paths : (a b : List (List ℕ)) → pointwise (pointwise ◌==◌) a b ≡ true → a ≡ b
same_paths a b e =
    (slice_eq-Decides
    (λ x y. slice_eq-Decides Decides-eqb x y (pointwise ◌==◌ x y) refl)
    a b (pointwise (pointwise ◌==◌) a b) refl).0 e

bears_path : (path : List (List ℕ)) (rs : List Held) (i : ℕ) (h : Held) → IsAt path rs i h
    → is_at path h ≡ true
bears_path path rs i h at =
    let P : Held → Type 0 = λ x. is_at path x ≡ true in
    subst P (get_or_of rs i h h at.stands)
    (position-Some (is_at path) rs i h at.first).1

path_is : (path : List (List ℕ)) (rs : List Held) (i : ℕ) (h : Held) → IsAt path rs i h
    → h.path ≡ path
path_is path rs i h at = same_paths h.path path (bears_path path rs i h at)

-- it is found where it was found, after one resource changed that kept its path
first_set : (path : List (List ℕ)) (rs : List Held) (i j : ℕ) (h x : Held)
    → slice_get rs i ≡ Some h → is_at path x ≡ is_at path h
    → position (is_at path) rs ≡ Some j → position (is_at path) (set rs i x) ≡ Some j
first_set path rs i j h x at same first =
    let alike : is_at path x ≡ is_at path (get_or rs i h) =
    same ∙ ap (λ (y : Held). is_at path y) (sym (get_or_of rs i h h at)) in
    rw (position_or_len-set (is_at path) rs i x h alike, length-set rs i x) first

-- ---- executions

left_by_own : (path : List (List ℕ)) (state : List ℕ) (x : Taken) → is_of path x ≡ true
    → left_with path state (x ∷ []) ≡ x.after
left_by_own path state x e = ap (λ (b : Bool). cond b x.after state) e

left_by_other : (path : List (List ℕ)) (state : List ℕ) (x : Taken) → is_of path x ≡ false
    → left_with path state (x ∷ []) ≡ state
left_by_other path state x e = ap (λ (b : Bool). cond b x.after state) e

left_append : (path : List (List ℕ)) (state : List ℕ) (xs ys : List Taken)
    → left_with path state (xs ++ ys) ≡ left_with path (left_with path state xs) ys
left_append path state [] ys = refl
left_append path state (x ∷ xs) ys =
    left_append path (cond (is_of path x) x.after state) xs ys

go_append : (path : List (List ℕ)) (state : List ℕ) (xs ys : List Taken) → GoOn path state xs
    → GoOn path (left_with path state xs) ys → GoOn path state (xs ++ ys)
go_append path state [] ys g h = h
go_append path state (x ∷ xs) ys g h =
    (g.0, go_append path (cond (is_of path x) x.after state) xs ys g.1 h)

unchanged : (path : List (List ℕ)) (i : ℕ) (h : Held) (old new : Device)
    → new.resources ≡ old.resources → IsAt path old.resources i h → HoldsLeft path i h [] new
unchanged path i h old new e at =
    let P : List Held → Type 0 = λ rs. IsAt path rs i h in
    record {
      held = h;
      stands = subst P (sym e) at;
      later = itself h;
      state = refl;
      go_on = tt;
    }

goes_on : (path : List (List ℕ)) (i : ℕ) (h : Held) (xs ys : List Taken) (middle new : Device)
    → (x : HoldsLeft path i h xs middle) → HoldsLeft path i x.held ys new
    → HoldsLeft path i h (xs ++ ys) new
goes_on path i h xs ys middle new x y =
    let P : List ℕ → Type 0 = λ state. GoOn path state ys in
    record {
      held = y.held;
      stands = y.stands;
      later = later_on h x.held y.held x.later y.later;
      state = y.state
          ∙ (ap (λ (state : List ℕ). left_with path state ys) x.state
          ∙ sym (left_append path h.state xs ys));
      go_on = go_append path h.state xs ys x.go_on (subst P x.state y.go_on);
    }

-- ---- one execution

abbrev now_of : {R : Relation} {t : ℕ} {p : Peer} {d : List ℕ} {old new : Device}
    {taken : Option Taken} → Did R t p d old new taken → Held
now_of x =
    let h = x.executes in
    stated h.held (is_change h.held.state h.after h.reply) h.after

module _ (R : Relation) (t : ℕ) (p : Peer) (d : List ℕ) (old new : Device)
    (taken : Option Taken) (did : Did R t p d old new taken) where
  resources_are : new.resources ≡ set old.resources did.place (now_of did)
  resources_are =
      did.left
      ∙ (ap (λ (x : Device). x.resources) did.executes.changes.settles.is
      ∙ ap (λ (x : Device). x.resources) did.executes.changes.answers.is)

  stood : IsAt (values 11 did.message.options) old.resources did.place did.executes.held
  stood = record { first = did.right.stands.first; stands = did.executes.there }

  done_path : did.done.path ≡ did.executes.held.path
  done_path = ap (λ (x : Taken). x.path) did.executes.changes.told

  done_before : did.done.before ≡ did.executes.held.state
  done_before = ap (λ (x : Taken). x.before) did.executes.changes.told

  done_after : did.done.after ≡ did.executes.after
  done_after = ap (λ (x : Taken). x.after) did.executes.changes.told

  asked_path : did.done.path ≡ values 11 did.message.options
  asked_path =
      done_path
      ∙ path_is (values 11 did.message.options) old.resources did.place did.executes.held stood

  later_now : IsLater did.executes.held (now_of did)
  later_now =
      let h = did.executes in
      stated_later h.held (is_change h.held.state h.after h.reply) h.after
      (kept_state h.held.state h.after h.reply)
      (is_left did.message old.resources did.place did.method h.held did.right h.there)

  -- the resource that was executed
  of_itself : (path : List (List ℕ)) (g : Held) → IsAt path old.resources did.place g
      → is_of path did.done ≡ true
  of_itself path g at =
      let same : Some did.executes.held ≡ Some g = sym did.executes.there ∙ at.stands in
      let is : did.executes.held ≡ g = cc in
      let P : Held → Type 0 = λ x. is_at path x ≡ true in
      ap (λ (q : List (List ℕ)). pointwise (pointwise ◌==◌) q path) done_path
      ∙ subst P (sym is) (bears_path path old.resources did.place g at)

  own_place : (path : List (List ℕ)) (j : ℕ) (g : Held) → IsAt path old.resources j g
      → is_of path did.done ≡ true → j ≡ did.place
  own_place path j g at of =
      let same : path ≡ values 11 did.message.options =
      sym (same_paths did.done.path path of) ∙ asked_path in
      let both : Some j ≡ Some did.place =
      sym at.first
      ∙ (ap (λ (q : List (List ℕ)). position (is_at q) old.resources) same
      ∙ stood.first) in
      cc

  first_still : (path : List (List ℕ)) (j : ℕ) (g : Held) → IsAt path old.resources j g
      → position (is_at path) (set old.resources did.place (now_of did)) ≡ Some j
  first_still path j g at =
      first_set path old.resources did.place j did.executes.held (now_of did)
      did.executes.there refl at.first

  pub executed : (path : List (List ℕ)) (j : ℕ) (g : Held) → IsAt path old.resources j g
      → HoldsLeft path j g (did.done ∷ []) new
  executed path j g at =
      let D : List Held → Type 0 = λ rs. (x : Device) → x.resources ≡ rs
      → HoldsLeft path j g (did.done ∷ []) x in
      let P : List Held → Type 0 = λ rs. IsAt path rs j (now_of did) in
      let Q : List Held → Type 0 = λ rs. IsAt path rs j g in
      elim (same_or_not did.place j) [
        | inl e ↦ (let same : Some did.executes.held ≡ Some g =
            sym did.executes.there
            ∙ ap (λ (k : ℕ). slice_get old.resources k) (sym e) ∙ at.stands in
            let is : did.executes.held ≡ g = cc in
            let L : Held → Type 0 = λ x. IsLater x (now_of did) in
            let I : ℕ → Type 0 = λ k. IsAt path old.resources k g in
            let of = of_itself path g (subst I e at) in
            record {
              held = now_of did;
              stands = subst P (sym resources_are) (record {
                first = first_still path j g at;
                stands = ap (λ (k : ℕ). slice_get (set old.resources did.place (now_of did)) k) e
                    ∙ get_set old.resources did.place did.executes.held (now_of did)
                    did.executes.there;
              });
              later = subst L is later_now;
              state = sym done_after ∙ sym (left_by_own path g.state did.done of);
              go_on = (λ yes. done_before ∙ ap (λ (x : Held). x.state) is, tt);
            })
        | inr ne ↦ (let of : is_of path did.done ≡ false =
            false_from_ne_true (is_of path did.done) (λ yes. ne (own_place path j g at yes)) in
            record {
              held = g;
              stands = subst Q (sym resources_are) (record {
                first = first_still path j g at;
                stands = get_other old.resources did.place j (now_of did) ne ∙ at.stands;
              });
              later = itself g;
              state = sym (left_by_other path g.state did.done of);
              go_on = (λ yes. absurd (ne (own_place path j g at yes)), tt);
            })
      ]

  tells : TellsOf d did.done old new
  tells =
      let P : List (List ℕ) → Type 0 = λ path.
      IsAt path old.resources did.place did.executes.held in
      let stood_there = subst P (sym asked_path) stood in
      let x = executed did.done.path did.place did.executes.held stood_there in
      let M : Method → Type 0 = λ method. method_code method ≡ did.message.code in
      record {
        message = did.message;
        reads = did.spells;
        path = asked_path;
        method = subst M (sym (ap (λ (x : Taken). x.method) did.executes.changes.told))
            did.right.code;
        place = did.place;
        held = did.executes.held;
        stood = stood_there;
        before = done_before;
        now = x.held;
        stands = x.stands;
        after = sym (x.state
            ∙ left_by_own did.done.path did.executes.held.state did.done
            (of_itself did.done.path did.executes.held stood_there));
      }

-- ---- a call

pub executions_tell : (R : Relation) → ExecutionsTell R
executions_tell R t p d old new taken h =
    elim (acts R t p d old new (Some taken) h) [
      | inl none ↦ nothing taken none.0
      | inr did ↦ (let same : did.done ≡ taken = cc in
          let P : Taken → Type 0 = λ x. TellsOf d x old new in
          let is : Some taken ≡ Some did.done = did.is in
          subst P same (tells R t p d old new (Some taken) did))
    ]

hears : (R : Relation) (t : ℕ) (p : Peer) (d : List ℕ) (old new : Device) (taken : Option Taken)
    (path : List (List ℕ)) (i : ℕ) (h : Held) → Acts R t p d old new taken
    → IsAt path old.resources i h → HoldsLeft path i h (told_of taken) new
hears R t p d old new taken path i h a at =
    let P : Option Taken → Type 0 = λ o. HoldsLeft path i h (told_of o) new in
    elim a [
      | inl none ↦ subst P (sym none.0) (unchanged path i h old new none.1 at)
      | inr did ↦ subst P (sym did.is) (executed R t p d old new taken did path i h at)
    ]

steps : (R : Relation) (e : Event) (old new : Device) (path : List (List ℕ)) (i : ℕ) (h : Held)
    → Steps R e old new → IsAt path old.resources i h → HoldsLeft path i h (told_by e) new
steps R (heard t p d taken) old new path i h s at =
    hears R t p d old new taken path i h (acts R t p d old new taken s) at
steps R (looked t) old new path i h s at =
    unchanged path i h old new (ap (λ (x : Device). x.resources) s.is) at
steps R gave old new path i h s at =
    unchanged path i h old new
    (ap (λ (x : Device). x.resources) s ∙ gives old.out old) at

-- ---- a run

first_is : (c a : Call) (cs : List Call) → slice_get (c ∷ cs) zero ≡ Some a → c ≡ a
first_is c a cs e = cc

from_first : (R : Relation) (s : Device) (cs : List Call) (k : ℕ) (b : Call)
    (path : List (List ℕ)) (i : ℕ) (h : Held)
    → Follow R s cs → slice_get cs k ≡ Some b → IsAt path s.resources i h
    → HoldsLeft path i h (told_in (take k cs)) b.before
from_first R s [] k b path i h f e at = absurd cc
from_first R s (c ∷ cs) zero b path i h f e at =
    unchanged path i h s b.before
    (ap (λ (x : Call). x.before.resources) (sym (first_is c b cs e))
    ∙ ap (λ (x : Device). x.resources) f.0) at
from_first R s (c ∷ cs) (suc k) b path i h f e at =
    let P : Device → Type 0 = λ x. IsAt path x.resources i h in
    let one = steps R c.event c.before c.after path i h f.1 (subst P (sym f.0) at) in
    goes_on path i h (told_by c.event) (told_in (take k cs)) c.after b.before one
    (from_first R c.after cs k b path i one.held f.2 e one.stands)

pub states_are_told : (R : Relation) → StatesAreTold R
states_are_told R s [] j k a b path i h f x y le at = absurd cc
states_are_told R s (c ∷ cs) zero k a b path i h f x y le at =
    let P : Device → Type 0 = λ v. IsAt path v.resources i h in
    let is : a.before ≡ s = ap (λ (v : Call). v.before) (sym (first_is c a cs x)) ∙ f.0 in
    from_first R s (c ∷ cs) k b path i h f y (subst P is at)
states_are_told R s (c ∷ cs) (suc j) zero a b path i h f x y le at =
    absurd (omega (arith, le))
states_are_told R s (c ∷ cs) (suc j) (suc k) a b path i h f x y le at =
    states_are_told R c.after cs j k a b path i h f.2 x y (omega (arith, le)) at
