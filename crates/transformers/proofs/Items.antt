-- The item at the front of bytes, step by step.
use Rattle.std.proofs.Common.{◌≡◌, ℕ, zero, suc, ◌+◌, ◌-◌, ◌<◌, ◌≤◌, List, [], ◌∷◌, ◌++◌, Option, Some, None, refl, sym, ap, ◌∙◌, arith}
use Rattle.serde_json.specs.Data.{Data, array, object, Members, no_members}
use Rattle.serde_json.specs.View.{items_of}
use Rattle.transformers.specs.declared.head.Major.{Major}
use Rattle.transformers.specs.declared.head.Major.TheVariants.{Array, Map}
use Rattle.transformers.specs.Item.{head_at, key_at, many_at, next_item, next_member, put_new, array_at, map_at, body_at, simple_at, item_in, item_at, inner_of}

pub item_is : (levels : ℕ) (bytes : List ℕ) → item_at levels bytes ≡ item_in (inner_of levels) bytes
unfolding item_at
item_is zero bytes = refl
item_is (suc levels) bytes = refl

pub read_simple : (levels : ℕ) (bytes : List ℕ) (x : Data × List ℕ) → simple_at bytes ≡ Some x → item_at levels bytes ≡ Some x
read_simple levels bytes x e = item_is levels bytes ∙ rw e refl

pub read_headless : (levels : ℕ) (bytes : List ℕ) → simple_at bytes ≡ None → head_at bytes ≡ None → item_at levels bytes ≡ None
read_headless levels bytes e h = item_is levels bytes ∙ rw (e, h) refl

pub read_body : (levels : ℕ) (bytes : List ℕ) (h : Major × ℕ × List ℕ) → simple_at bytes ≡ None → head_at bytes ≡ Some h → item_at levels bytes ≡ body_at (inner_of levels) h.0 h.1 h.2
read_body levels bytes h e is = item_is levels bytes ∙ rw (e, is) refl

pub inner_is : (levels : ℕ) → 0 < levels → inner_of levels ≡ Some (item_at (levels - 1))
inner_is zero lt = absurd (omega arith)
inner_is (suc levels) lt = let k : suc levels - 1 ≡ levels = omega arith in rw k refl

-- ---- pieces one after the other

pub more : {A : Type 0} (one : A → List ℕ → Option (A × List ℕ)) (count i : ℕ) (found : A) (bytes : List ℕ) (x : A × List ℕ) (total : Option (A × List ℕ)) → i < count → one found bytes ≡ Some x
    → many_at one (count - i) found bytes ≡ total → many_at one (count - (i + 1)) x.0 x.1 ≡ total
unfolding many_at
more {A} one count i found bytes x total lt e so_far =
    let k : count - i ≡ suc (count - (i + 1)) = omega arith in
    let step : many_at one (suc (count - (i + 1))) found bytes ≡ many_at one (count - (i + 1)) x.0 x.1 = rw e refl in
    sym step ∙ sym (ap (λ (n : ℕ). many_at one n found bytes) k) ∙ so_far

pub refused : {A : Type 0} (one : A → List ℕ → Option (A × List ℕ)) (count i : ℕ) (found : A) (bytes : List ℕ) (total : Option (A × List ℕ)) → i < count → one found bytes ≡ None
    → many_at one (count - i) found bytes ≡ total → total ≡ None
unfolding many_at
refused {A} one count i found bytes total lt e so_far =
    let k : count - i ≡ suc (count - (i + 1)) = omega arith in
    let step : many_at one (suc (count - (i + 1))) found bytes ≡ None = rw e refl in
    sym so_far ∙ ap (λ (n : ℕ). many_at one n found bytes) k ∙ step

pub ended : {A : Type 0} (one : A → List ℕ → Option (A × List ℕ)) (count i : ℕ) (found : A) (bytes : List ℕ) (total : Option (A × List ℕ)) → count ≤ i
    → many_at one (count - i) found bytes ≡ total → total ≡ Some (found, bytes)
unfolding many_at
ended {A} one count i found bytes total le so_far =
    let k : count - i ≡ 0 = omega arith in
    sym so_far ∙ ap (λ (n : ℕ). many_at one n found bytes) k

-- ---- arrays and maps

pub item_read : (one : List ℕ → Option (Data × List ℕ)) (found : List Data) (bytes : List ℕ) (x : Data × List ℕ) → one bytes ≡ Some x → next_item one found bytes ≡ Some (found ++ x.0 ∷ [], x.1)
unfolding next_item
item_read one found bytes x e = rw e refl

pub item_refused : (one : List ℕ → Option (Data × List ℕ)) (found : List Data) (bytes : List ℕ) → one bytes ≡ None → next_item one found bytes ≡ None
unfolding next_item
item_refused one found bytes e = rw e refl

pub member_read : (one : List ℕ → Option (Data × List ℕ)) (found : Members) (bytes : List ℕ) (k : List ℕ × List ℕ) (v : Data × List ℕ) (all : Members)
    → key_at bytes ≡ Some k → one k.1 ≡ Some v → put_new k.0 v.0 found ≡ Some all → next_member one found bytes ≡ Some (all, v.1)
unfolding next_member
member_read one found bytes k v all e f g = rw (e, f, g) refl

pub member_keyless : (one : List ℕ → Option (Data × List ℕ)) (found : Members) (bytes : List ℕ) → key_at bytes ≡ None → next_member one found bytes ≡ None
unfolding next_member
member_keyless one found bytes e = rw e refl

pub member_refused : (one : List ℕ → Option (Data × List ℕ)) (found : Members) (bytes : List ℕ) (k : List ℕ × List ℕ) → key_at bytes ≡ Some k → one k.1 ≡ None → next_member one found bytes ≡ None
unfolding next_member
member_refused one found bytes k e f = rw (e, f) refl

pub member_equal : (one : List ℕ → Option (Data × List ℕ)) (found : Members) (bytes : List ℕ) (k : List ℕ × List ℕ) (v : Data × List ℕ)
    → key_at bytes ≡ Some k → one k.1 ≡ Some v → put_new k.0 v.0 found ≡ None → next_member one found bytes ≡ None
unfolding next_member
member_equal one found bytes k v e f g = rw (e, f, g) refl

pub array_read : (levels n : ℕ) (bytes : List ℕ) (x : List Data × List ℕ) → 0 < levels → many_at (next_item (item_at (levels - 1))) n [] bytes ≡ Some x
    → body_at (inner_of levels) Array n bytes ≡ Some (array (items_of x.0), x.1)
unfolding array_at
array_read levels n bytes x lt e = rw (inner_is levels lt, e) refl

pub array_refused : (levels n : ℕ) (bytes : List ℕ) → 0 < levels → many_at (next_item (item_at (levels - 1))) n [] bytes ≡ None
    → body_at (inner_of levels) Array n bytes ≡ None
unfolding array_at
array_refused levels n bytes lt e = rw (inner_is levels lt, e) refl

pub map_read : (levels n : ℕ) (bytes : List ℕ) (x : Members × List ℕ) → 0 < levels → many_at (next_member (item_at (levels - 1))) n no_members bytes ≡ Some x
    → body_at (inner_of levels) Map n bytes ≡ Some (object x.0, x.1)
unfolding map_at
map_read levels n bytes x lt e = rw (inner_is levels lt, e) refl

pub map_refused : (levels n : ℕ) (bytes : List ℕ) → 0 < levels → many_at (next_member (item_at (levels - 1))) n no_members bytes ≡ None
    → body_at (inner_of levels) Map n bytes ≡ None
unfolding map_at
map_refused levels n bytes lt e = rw (inner_is levels lt, e) refl
