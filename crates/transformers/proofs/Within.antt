-- What is read lies in the profile: it has no float, and is nested no deeper than the levels.
use Rattle.std.proofs.Common.{◌≡◌, ℕ, zero, suc, ◌≤◌, ◌^◌, ◌||◌, List, [], ◌∷◌, ◌++◌, Bool, true, false, cond, ltb, ◌==◌, negsuc, Option, Some, None, Ordering, Less, Equal, Greater, refl, sym, ◌∙◌, subst, arith, ◌⊎◌, inl, inr, is_some}
use Rattle.std.proofs.lemmas.Bool.{or_parts}
use Rattle.std.proofs.lemmas.Option.{cond_some, same_Some}
use Rattle.std.specs.Option.{option_or}
use Rattle.std.specs.Ordering.{match_ordering, nat_cmp}
use Rattle.std.specs.Cmp.Lexicographic.{slice_cmp}
use Rattle.serde_json.specs.Data.{Data, null, boolean, number, string, array, object, unsigned, negative, Members, no_members, member, put, depth, items_depth, members_depth}
use Rattle.serde_json.specs.Find.{get_member}
use Rattle.serde_json.specs.View.{items_of}
use Rattle.serde_json.specs.Written.{has_float, items_have_float, members_have_float}
use Rattle.transformers.specs.declared.head.Major.{Major}
use Rattle.transformers.specs.declared.head.Major.TheVariants.{Unsigned, Negative, Text, Array, Map}
use Rattle.transformers.specs.Item.{◌>>=◌, head_at, key_at, text_at, negative_of, many_at, next_item, next_member, put_new, array_at, map_at, body_at, simple_at, item_in, item_at, only, denoted}
use Rattle.transformers.proofs.Items.{item_is}

pub bind_some : {A B : Type 0} (r : Option A) (f : A → Option B) (y : B) → (r >>= f) ≡ Some y → (x : A) × (r ≡ Some x) × (f x ≡ Some y)
bind_some (Some x) f y e = (x, refl, e)
bind_some None f y e = absurd cc

-- the one of two that gives something
pub one_of : {A : Type 0} (a b : Option A) (x : A) → option_or a b ≡ Some x → (a ≡ Some x) ⊎ (b ≡ Some x)
one_of None b x e = inr e
one_of (Some y) b x e = inl e

-- the side of a test that gives something
pub either : {A : Type 0} (b : Bool) (x y : Option A) (z : A) → cond b x y ≡ Some z → ((b ≡ true) × (x ≡ Some z)) ⊎ ((b ≡ false) × (y ≡ Some z))
either true x y z e = inl (refl, e)
either false x y z e = inr (refl, e)

pub both_false : (a b : Bool) → a ≡ false → b ≡ false → (a || b) ≡ false
both_false a b e f = rw (e, f) refl

abbrev pub Within : ℕ → Data → Type 0
Within n d = (has_float d ≡ false) × (depth d ≤ n)

abbrev pub ItemsWithin : ℕ → List Data → Type 0
ItemsWithin n ds = (items_have_float (items_of ds) ≡ false) × (items_depth (items_of ds) ≤ n)

abbrev pub MembersWithin : ℕ → Members → Type 0
MembersWithin n ms = (members_have_float ms ≡ false) × (members_depth ms ≤ n)

-- ---- one more item, one more member

pub one_more_item : (n : ℕ) (ds : List Data) (d : Data) → (items_have_float (items_of ds) ≡ false) × (items_depth (items_of ds) ≤ n) → (has_float d ≡ false) × (depth d ≤ n)
    → (items_have_float (items_of (ds ++ d ∷ [])) ≡ false) × (items_depth (items_of (ds ++ d ∷ [])) ≤ n)
one_more_item n [] d all one = (both_false (has_float d) false one.0 refl, omega (arith, one.1))
one_more_item n (e ∷ ds) d all one =
    let parts = or_parts (has_float e) (items_have_float (items_of ds)) all.0 in
    let later = one_more_item n ds d (parts.1, omega (arith, all.1)) one in
    (both_false (has_float e) (items_have_float (items_of (ds ++ d ∷ []))) parts.0 later.0, omega (arith, all.1, later.1))

-- a property of each of three that a comparison chooses from
chosen : (P : Members → Type 0) (o : Ordering) (x y z : Members) → P x → P y → P z → P (match_ordering o x y z)
chosen P Less x y z p q r = p
chosen P Equal x y z p q r = q
chosen P Greater x y z p q r = r

pub with_member : (n : ℕ) (k : List ℕ) (d : Data) (ms : Members) → (has_float d ≡ false) × (depth d ≤ n) → (members_have_float ms ≡ false) × (members_depth ms ≤ n)
    → (members_have_float (member k d ms) ≡ false) × (members_depth (member k d ms) ≤ n)
with_member n k d ms one all = (both_false (has_float d) (members_have_float ms) one.0 all.0, omega (arith, one.1, all.1))

put_within : (n : ℕ) (k : List ℕ) (d : Data) (ms : Members) → Within n d → MembersWithin n ms → MembersWithin n (put k d ms)
put_within n k d no_members one all = with_member n k d no_members one all
put_within n k d (member l e ms) one all =
    let parts = or_parts (has_float e) (members_have_float ms) all.0 in
    let here : Within n e = (parts.0, omega (arith, all.1)) in
    let there : MembersWithin n ms = (parts.1, omega (arith, all.1)) in
    chosen (λ (r : Members). MembersWithin n r) (slice_cmp nat_cmp k l) (member k d (member l e ms)) (member l d ms) (member l e (put k d ms))
    (with_member n k d (member l e ms) one all) (with_member n l d ms one there) (with_member n l e (put k d ms) here (put_within n k d ms one there))

-- ---- what many pieces keep

kept : {A : Type 0} (P : A → Type 0) (one : A → List ℕ → Option (A × List ℕ)) → ((a : A) (bytes : List ℕ) (y : A × List ℕ) → P a → one a bytes ≡ Some y → P y.0)
    → (n : ℕ) (a : A) (bytes : List ℕ) (y : A × List ℕ) → P a → many_at one n a bytes ≡ Some y → P y.0
unfolding many_at
kept {A} P one step zero a bytes y p e = subst (λ (x : A × List ℕ). P x.0) (same_Some (a, bytes) y e) p
kept {A} P one step (suc n) a bytes y p e =
    let b = bind_some (one a bytes) (λ x. many_at one n x.0 x.1) y e in
    kept P one step n b.0.0 b.0.1 y (step a bytes b.0 p b.1) b.2

abbrev pub ReadsWithin : ℕ → (List ℕ → Option (Data × List ℕ)) → Type 0
ReadsWithin n one = (bytes : List ℕ) (x : Data × List ℕ) → one bytes ≡ Some x → Within n x.0

item_step : (n : ℕ) (one : List ℕ → Option (Data × List ℕ)) → ReadsWithin n one
    → (ds : List Data) (bytes : List ℕ) (y : List Data × List ℕ) → ItemsWithin n ds → next_item one ds bytes ≡ Some y → ItemsWithin n y.0
unfolding next_item
item_step n one reads ds bytes y all e =
    let b = bind_some (one bytes) (λ x. Some (ds ++ x.0 ∷ [], x.1)) y e in
    subst (λ (x : List Data × List ℕ). ItemsWithin n x.0) (same_Some (ds ++ b.0.0 ∷ [], b.0.1) y b.2) (one_more_item n ds b.0.0 all (reads bytes b.0 b.1))

put_step : (n : ℕ) (k : List ℕ) (d : Data) (ms all : Members) → Within n d → MembersWithin n ms → put_new k d ms ≡ Some all → MembersWithin n all
unfolding put_new
put_step n k d ms all one within e = elim (either (is_some (get_member k ms)) None (Some (put k d ms)) all e) [
  | inl bad ↦ absurd cc
  | inr good ↦ subst (λ (r : Members). MembersWithin n r) (same_Some (put k d ms) all good.1) (put_within n k d ms one within)
]

member_step : (n : ℕ) (one : List ℕ → Option (Data × List ℕ)) → ReadsWithin n one
    → (ms : Members) (bytes : List ℕ) (y : Members × List ℕ) → MembersWithin n ms → next_member one ms bytes ≡ Some y → MembersWithin n y.0
unfolding next_member
member_step n one reads ms bytes y all e =
    let key = bind_some (key_at bytes) _ y e in
    let value = bind_some (one key.0.1) _ y key.2 in
    let members = bind_some (put_new key.0.0 value.0.0 ms) (λ found. Some (found, value.0.1)) y value.2 in
    subst (λ (x : Members × List ℕ). MembersWithin n x.0) (same_Some (members.0, value.0.1) y members.2)
    (put_step n key.0.0 value.0.0 ms members.0 (reads key.0.1 value.0 value.1) all members.1)

-- ---- items

abbrev pub InnerWithin : ℕ → Option (List ℕ → Option (Data × List ℕ)) → Type 0
InnerWithin n None = Unit {0}
InnerWithin zero (Some one) = ⊥
InnerWithin (suc n) (Some one) = ReadsWithin n one

array_within : (n : ℕ) (one : List ℕ → Option (Data × List ℕ)) → ReadsWithin n one → (count : ℕ) (bytes : List ℕ) (x : Data × List ℕ) → array_at one count bytes ≡ Some x → Within (suc n) x.0
unfolding array_at
array_within n one reads count bytes x e =
    let b = bind_some (many_at (next_item one) count [] bytes) (λ y. Some (array (items_of y.0), y.1)) x e in
    let all = kept (λ (ds : List Data). ItemsWithin n ds) (next_item one) (item_step n one reads) count [] bytes b.0 (refl, omega arith) b.1 in
    subst (λ (y : Data × List ℕ). Within (suc n) y.0) (same_Some (array (items_of b.0.0), b.0.1) x b.2) (all.0, omega (arith, all.1))

map_within : (n : ℕ) (one : List ℕ → Option (Data × List ℕ)) → ReadsWithin n one → (count : ℕ) (bytes : List ℕ) (x : Data × List ℕ) → map_at one count bytes ≡ Some x → Within (suc n) x.0
unfolding map_at
map_within n one reads count bytes x e =
    let b = bind_some (many_at (next_member one) count no_members bytes) (λ y. Some (object y.0, y.1)) x e in
    let all = kept (λ (ms : Members). MembersWithin n ms) (next_member one) (member_step n one reads) count no_members bytes b.0 (refl, omega arith) b.1 in
    subst (λ (y : Data × List ℕ). Within (suc n) y.0) (same_Some (object b.0.0, b.0.1) x b.2) (all.0, omega (arith, all.1))

leaf_within : (n : ℕ) (d : Data) (rest : List ℕ) (x : Data × List ℕ) → has_float d ≡ false → depth d ≡ 0 → Some (d, rest) ≡ Some x → Within n x.0
leaf_within n d rest x no_float flat e = subst (λ (y : Data × List ℕ). Within n y.0) (same_Some (d, rest) x e) (no_float, omega (arith, flat))

simple_within : (n : ℕ) (bytes : List ℕ) (x : Data × List ℕ) → simple_at bytes ≡ Some x → Within n x.0
unfolding simple_at
simple_within n [] x e = absurd cc
simple_within n (b ∷ bytes) x e = elim (either (b == 244) (Some (boolean false, bytes)) _ x e) [
  | inl f ↦ leaf_within n (boolean false) bytes x refl refl f.1
  | inr f ↦ elim (either (b == 245) (Some (boolean true, bytes)) _ x f.1) [
    | inl g ↦ leaf_within n (boolean true) bytes x refl refl g.1
    | inr g ↦ elim (either (b == 246) (Some (null, bytes)) None x g.1) [
      | inl h ↦ leaf_within n null bytes x refl refl h.1
      | inr h ↦ absurd cc
    ]
  ]
]

pub negative_is : (n : ℕ) (d : Data) → negative_of n ≡ Some d → number (negative (negsuc n)) ≡ d
unfolding negative_of
negative_is n d e = (cond_some (ltb n (2 ^ 63)) (number (negative (negsuc n))) d e).1

body_within : (n : ℕ) (inner : Option (List ℕ → Option (Data × List ℕ))) → InnerWithin n inner → (major : Major) (m : ℕ) (bytes : List ℕ) (x : Data × List ℕ) → body_at inner major m bytes ≡ Some x → Within n x.0
body_within n inner ok Unsigned m bytes x e = leaf_within n (number (unsigned m)) bytes x refl refl e
body_within n inner ok Negative m bytes x e =
    let b = bind_some (negative_of m) (λ d. Some (d, bytes)) x e in
    let here = subst (λ (d : Data). Within n d) (negative_is m b.0 b.1) (refl, omega arith) in
    subst (λ (y : Data × List ℕ). Within n y.0) (same_Some (b.0, bytes) x b.2) here
body_within n inner ok Text m bytes x e =
    let b = bind_some (text_at m bytes) (λ t. Some (string t.0, t.1)) x e in
    leaf_within n (string b.0.0) b.0.1 x refl refl b.2
body_within n None ok Array m bytes x e = absurd cc
body_within zero (Some one) ok Array m bytes x e = absurd ok
body_within (suc n) (Some one) ok Array m bytes x e = array_within n one ok m bytes x e
body_within n None ok Map m bytes x e = absurd cc
body_within zero (Some one) ok Map m bytes x e = absurd ok
body_within (suc n) (Some one) ok Map m bytes x e = map_within n one ok m bytes x e

in_within : (n : ℕ) (inner : Option (List ℕ → Option (Data × List ℕ))) → InnerWithin n inner → (bytes : List ℕ) (x : Data × List ℕ) → item_in inner bytes ≡ Some x → Within n x.0
in_within n inner ok bytes x e = elim (one_of (simple_at bytes) _ x e) [
  | inl f ↦ simple_within n bytes x f
  | inr f ↦ (let h = bind_some (head_at bytes) (λ h. body_at inner h.0 h.1 h.2) x f in body_within n inner ok h.0.0 h.0.1 h.0.2 x h.2)
]

item_within : (n : ℕ) (bytes : List ℕ) (x : Data × List ℕ) → item_at n bytes ≡ Some x → Within n x.0
item_within zero bytes x e = in_within zero None tt bytes x (sym (item_is zero bytes) ∙ e)
item_within (suc n) bytes x e = in_within (suc n) (Some (item_at n)) (λ bs y f. item_within n bs y f) bytes x (sym (item_is (suc n) bytes) ∙ e)

pub alone : (c : Data) (rest : List ℕ) (d : Data) → only c rest ≡ Some d → c ≡ d
alone c [] d e = same_Some c d e
alone c (b ∷ rest) d e = absurd cc

-- what a whole input denotes has no float, and is nested at most 32 deep
pub denoted_within : (bytes : List ℕ) (d : Data) → denoted bytes ≡ Some d → (has_float d ≡ false) × (depth d ≤ 32)
unfolding denoted
denoted_within bytes d e =
    let b = bind_some (item_at 32 bytes) (λ x. only x.0 x.1) d e in
    subst (λ (y : Data). Within 32 y) (alone b.0.0 b.0.1 d b.2) (item_within 32 bytes b.0 b.1)
