-- The first of the greatest weight.
use Rattle.std.proofs.Common.{◌≡◌, sym, ap, subst, refl, ℕ, ◌<◌, ◌≤◌, List, [], ◌∷◌, ◌++◌, append_assoc, Bool, true, false, Option, Some, None, arith, nat_lt}
use Rattle.std.specs.Prelude.{All, Contains, if◌then◌else◌, Result, Ok}
use Rattle.std.specs.List.{cons_option, list_any}
use Rattle.std.specs.Option.{option_map}
use Rattle.std.proofs.lemmas.List.Elements.{All-nil, All-cons, All-append, All-push, All-weaker, All-contains, Contains-append_right}
use Rattle.std.proofs.lemmas.Bool.{ltb-false, ltb-true}
use Rattle.std.proofs.lemmas.List.{append-nil}
use Rattle.media_map.specs.declared.form.Form.{Form}
use Rattle.media_map.specs.declared.policy.Policy.{Policy}
use Rattle.media_map.specs.declared.wanted.Wanted.{Wanted}
use Rattle.media_map.specs.declared.fault.MediaFault.{MediaFault}
use Rattle.media_map.specs.Accepting.{Element, IsBest, best_from, choice_of, choices, accept, accepted, wanted_of, takes_anything, is_payload}

-- A heavier one is the best of all.
heavier : (all : List (ℕ × Wanted)) (b c : ℕ × Wanted) → IsBest all b → b.0 < c.0 → IsBest (all ++ c ∷ []) c
heavier all b c best lt = record {
  before = all;
  after = [];
  stands = refl;
  less =
      let low : (xs : List (ℕ × Wanted)) → All (λ (x : ℕ × Wanted). x.0 < b.0) xs → All (λ (x : ℕ × Wanted). x.0 < c.0) xs =
      λ xs. All-weaker (λ (x : ℕ × Wanted). x.0 < b.0) (λ (x : ℕ × Wanted). x.0 < c.0) (λ x h. omega (arith, h, lt)) xs in
      let level : (xs : List (ℕ × Wanted)) → All (λ (x : ℕ × Wanted). x.0 ≤ b.0) xs → All (λ (x : ℕ × Wanted). x.0 < c.0) xs =
      λ xs. All-weaker (λ (x : ℕ × Wanted). x.0 ≤ b.0) (λ (x : ℕ × Wanted). x.0 < c.0) (λ x h. omega (arith, h, lt)) xs in
      let front : All (λ (x : ℕ × Wanted). x.0 < c.0) best.before = low best.before best.less in
      let back : All (λ (x : ℕ × Wanted). x.0 < c.0) (b ∷ best.after) = All-cons (λ (x : ℕ × Wanted). x.0 < c.0) b best.after lt (level best.after best.no_more) in
      subst (λ (xs : List (ℕ × Wanted)). All (λ (x : ℕ × Wanted). x.0 < c.0) xs) (sym best.stands)
      (All-append (λ (x : ℕ × Wanted). x.0 < c.0) best.before (b ∷ best.after) front back);
  no_more = All-nil (λ (x : ℕ × Wanted). x.0 ≤ c.0);
}

-- After one that isn't heavier the best stays.
no_heavier : (all : List (ℕ × Wanted)) (b c : ℕ × Wanted) → IsBest all b → c.0 ≤ b.0 → IsBest (all ++ c ∷ []) b
no_heavier all b c best le = record {
  before = best.before;
  after = best.after ++ c ∷ [];
  stands = rw best.stands (append_assoc best.before (b ∷ best.after) (c ∷ []));
  less = best.less;
  no_more = All-push (λ (x : ℕ × Wanted). x.0 ≤ b.0) best.after c best.no_more le;
}

alone : (c : ℕ × Wanted) → IsBest (c ∷ []) c
alone c = record {
  before = [];
  after = [];
  stands = refl;
  less = All-nil (λ (x : ℕ × Wanted). x.0 < c.0);
  no_more = All-nil (λ (x : ℕ × Wanted). x.0 ≤ c.0);
}

same_choice : (b r : ℕ × Wanted) → Some b ≡ Some r → b ≡ r
same_choice b r e = cc

go_on : (heavy : Bool) (all : List (ℕ × Wanted)) (b c : ℕ × Wanted) (cs : List (ℕ × Wanted)) (r : ℕ × Wanted) → nat_lt b.0 c.0 ≡ heavy → IsBest all b
    → ((d : ℕ × Wanted) → IsBest (all ++ c ∷ []) d → best_from (Some d) cs ≡ Some r → IsBest ((all ++ c ∷ []) ++ cs) r)
    → best_from (if heavy then Some c else Some b) cs ≡ Some r → IsBest ((all ++ c ∷ []) ++ cs) r
go_on true all b c cs r h best others e = others c (heavier all b c best (ltb-true b.0 c.0 h)) e
go_on false all b c cs r h best others e = others b (no_heavier all b c best (ltb-false b.0 c.0 h)) e

best_of : (cs all : List (ℕ × Wanted)) (b r : ℕ × Wanted) → IsBest all b → best_from (Some b) cs ≡ Some r → IsBest (all ++ cs) r
best_of [] all b r best e = subst (λ (x : ℕ × Wanted). IsBest (all ++ []) x) (same_choice b r e) (subst (λ (xs : List (ℕ × Wanted)). IsBest xs b) (sym (append-nil all)) best)
best_of (c ∷ cs) all b r best e =
    subst (λ (xs : List (ℕ × Wanted)). IsBest xs r) (append_assoc all (c ∷ []) cs)
    (go_on (nat_lt b.0 c.0) all b c cs r refl best (λ d. best_of cs (all ++ c ∷ []) d r) e)

is_best : (cs : List (ℕ × Wanted)) (r : ℕ × Wanted) → best_from None cs ≡ Some r → IsBest cs r
is_best [] r e = absurd cc
is_best (c ∷ cs) r e = best_of cs (c ∷ []) c r (alone c) e

-- Only elements of some weight can be had.
has_weight : (some : Bool) (weight : ℕ) (o : Option Wanted) (c : ℕ × Wanted) → nat_lt 0 weight ≡ some
    → (if some then option_map (λ w. (weight, w)) o else None) ≡ Some c → 0 < c.0
has_weight true weight None c h e = absurd cc
has_weight true weight (Some w) c h e = subst (λ (x : ℕ × Wanted). 0 < x.0) (same_choice (weight, w) c e) (ltb-true 0 weight h)
has_weight false weight o c h e = absurd cc

choice_weighs : (policy : Policy) (routes : List (Form × Form)) (x : Element) (c : ℕ × Wanted) → choice_of policy routes x ≡ Some c → 0 < c.0
unfolding choice_of
choice_weighs policy routes x c e = has_weight (nat_lt 0 x.weight) x.weight (wanted_of policy routes x.media) c refl e

one_more : (o : Option (ℕ × Wanted)) (cs : List (ℕ × Wanted)) → ((c : ℕ × Wanted) → o ≡ Some c → 0 < c.0)
    → All (λ (x : ℕ × Wanted). 0 < x.0) cs → All (λ (x : ℕ × Wanted). 0 < x.0) (cons_option o cs)
one_more None cs h others = others
one_more (Some c) cs h others = All-cons (λ (x : ℕ × Wanted). 0 < x.0) c cs (h c refl) others

weighs : (policy : Policy) (routes : List (Form × Form)) (es : List Element) → All (λ (x : ℕ × Wanted). 0 < x.0) (choices policy routes es)
weighs policy routes [] = All-nil (λ (x : ℕ × Wanted). 0 < x.0)
weighs policy routes (e ∷ es) = one_more (choice_of policy routes e) (choices policy routes es) (choice_weighs policy routes e) (weighs policy routes es)

weight_of_best : (policy : Policy) (routes : List (Form × Form)) (es : List Element) (r : ℕ × Wanted) → IsBest (choices policy routes es) r → 0 < r.0
weight_of_best policy routes es r best =
    All-contains (λ (x : ℕ × Wanted). 0 < x.0) (choices policy routes es) r (weighs policy routes es) (subst (λ (xs : List (ℕ × Wanted)). Contains xs r) (sym best.stands) (Contains-append_right best.before (r ∷ best.after) r (0, omega arith, refl)))

as_answer : Wanted → Result (Option Wanted) MediaFault
as_answer w = Ok (Some w)

same_wanted : (v w : Wanted) → as_answer v ≡ as_answer w → v ≡ w
unfolding as_answer
same_wanted v w e = cc

from_best : (anything payload : Bool) (best : Option (ℕ × Wanted)) (w : Wanted) → (if anything then Ok None else accepted payload best) ≡ Ok (Some w)
    → (weight : ℕ) × (best ≡ Some (weight, w))
unfolding as_answer
from_best true payload best w e = absurd cc
from_best false payload (Some b) w e = (b.0, ap (λ v. Some (b.0, v)) (same_wanted b.1 w e))
from_best false true None w e = absurd cc
from_best false false None w e = absurd cc

pub wanted_is_best : (policy : Policy) (routes : List (Form × Form)) (es : List Element) (w : Wanted) → accept policy routes es ≡ Ok (Some w)
    → (weight : ℕ) × (0 < weight) × IsBest (choices policy routes es) (weight, w)
wanted_is_best policy routes [] w e = absurd cc
wanted_is_best policy routes (x ∷ es) w e =
    let b = from_best (list_any takes_anything (x ∷ es)) (list_any is_payload (x ∷ es)) (best_from None (choices policy routes (x ∷ es))) w e in
    let best : IsBest (choices policy routes (x ∷ es)) (b.0, w) = is_best (choices policy routes (x ∷ es)) (b.0, w) b.1 in
    (b.0, weight_of_best policy routes (x ∷ es) (b.0, w) best, best)
