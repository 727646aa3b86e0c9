-- A pass over an item that keeps no value of it, step by step.
use Rattle.std.proofs.Common.{◌≡◌, ℕ, zero, suc, ◌+◌, ◌-◌, ◌<◌, ◌≤◌, ◌==◌, length, bytes_eq, true≢false, List, [], ◌∷◌, ◌++◌, Bool, true, false, Option, Some, None, option_map, is_some, refl, sym, ap, ◌∙◌, subst, arith}
use Rattle.std.proofs.lemmas.Bool.{ne_eqb}
use Rattle.std.proofs.lemmas.Slice.Eq.{bytes_eq-Decides}
use Rattle.std.proofs.lemmas.Option.{same_Some}
use Rattle.serde_json.specs.Data.{Data, Members, no_members, put}
use Rattle.serde_json.specs.Find.{get_member}
use Rattle.serde_json.proofs.Views.{get_member-put, get_member-put_other}
use Rattle.transformers.specs.declared.head.Major.{Major}
use Rattle.transformers.specs.declared.head.Major.TheVariants.{Array, Map}
use Rattle.transformers.specs.Item.{◌>>=◌, head_at, key_at, many_at, next_item, next_member, put_new, array_at, map_at, body_at, simple_at, item_at, inner_of, only, denoted}
use Rattle.transformers.specs.Passing.{IsBehind}
use Rattle.transformers.proofs.Items.{read_body, inner_is}
use Rattle.transformers.proofs.Within.{bind_some}

-- ---- one piece

-- what follows, exactly
pub exactly : {A : Type 0} (c : Bool) (o : Option (A × List ℕ)) → IsBehind c o (option_map (λ x. x.1) o)
exactly c (Some x) = refl
exactly true None = refl
exactly false None = tt

pub nothing : {A : Type 0} (c : Bool) (o : Option (A × List ℕ)) → o ≡ None → IsBehind c o None
nothing {A} c o e = subst (λ (p : Option (A × List ℕ)). IsBehind c p None) (sym e) (exactly {A = A} c None)

pub something : {A : Type 0} (c : Bool) (o : Option (A × List ℕ)) (x : A × List ℕ) → o ≡ Some x → IsBehind c o (Some x.1)
something {A} c o x e = subst (λ (p : Option (A × List ℕ)). IsBehind c p (Some x.1)) (sym e) refl

-- what is made of a value doesn't matter
pub then_behind : {A B : Type 0} (c : Bool) (o : Option (A × List ℕ)) (f : A → B) (r : Option (List ℕ)) → IsBehind c o r → IsBehind c (o >>= λ x. Some (f x.0, x.1)) r
then_behind c (Some x) f r h = h
then_behind true None f r h = h
then_behind false None f r h = tt

pub behind_body : (c : Bool) (levels : ℕ) (bytes : List ℕ) (h : Major × ℕ × List ℕ) (r : Option (List ℕ)) → simple_at bytes ≡ None → head_at bytes ≡ Some h
    → IsBehind c (body_at (inner_of levels) h.0 h.1 h.2) r → IsBehind c (item_at levels bytes) r
behind_body c levels bytes h r e is b = subst (λ (o : Option (Data × List ℕ)). IsBehind c o r) (sym (read_body levels bytes h e is)) b

pub behind_array : (c : Bool) (levels n : ℕ) (bytes : List ℕ) (r : Option (List ℕ)) → 0 < levels → IsBehind c (many_at (next_item (item_at (levels - 1))) n [] bytes) r
    → IsBehind c (body_at (inner_of levels) Array n bytes) r
unfolding array_at
behind_array c levels n bytes r lt h = rw (inner_is levels lt) (then_behind c (many_at (next_item (item_at (levels - 1))) n [] bytes) _ r h)

pub behind_map : (c : Bool) (levels n : ℕ) (bytes : List ℕ) (r : Option (List ℕ)) → 0 < levels → IsBehind c (many_at (next_member (item_at (levels - 1))) n no_members bytes) r
    → IsBehind c (body_at (inner_of levels) Map n bytes) r
unfolding map_at
behind_map c levels n bytes r lt h = rw (inner_is levels lt) (then_behind c (many_at (next_member (item_at (levels - 1))) n no_members bytes) _ r h)

pub behind_item : (c : Bool) (one : List ℕ → Option (Data × List ℕ)) (found : List Data) (bytes : List ℕ) (r : Option (List ℕ)) → IsBehind c (one bytes) r → IsBehind c (next_item one found bytes) r
unfolding next_item
behind_item c one found bytes r h = then_behind c (one bytes) (λ d. found ++ d ∷ []) r h

-- ---- pieces one after the other

-- What is after the pieces that are left is after all of them.
abbrev pub Leads : {A : Type 0} → Bool → Option (A × List ℕ) → Option (A × List ℕ) → Type 0
Leads c left all = (r : Option (List ℕ)) → IsBehind c left r → IsBehind c all r

pub begins : {A : Type 0} (c : Bool) (one : A → List ℕ → Option (A × List ℕ)) (count : ℕ) (start : A) (bytes : List ℕ) → Leads c (many_at one (count - 0) start bytes) (many_at one count start bytes)
begins c one count start bytes r h =
    let k : count - 0 ≡ count = omega arith in
    subst (λ (n : ℕ). IsBehind c (many_at one n start bytes) r) k h

pub none_yet : {A : Type 0} (one : A → List ℕ → Option (A × List ℕ)) (start : A) (bytes : List ℕ) → many_at one 0 start bytes ≡ Some (start, bytes)
unfolding many_at
none_yet one start bytes = refl

turn : {A : Type 0} (one : A → List ℕ → Option (A × List ℕ)) (count i : ℕ) (found : A) (bytes : List ℕ) → i < count
    → many_at one (count - i) found bytes ≡ (one found bytes >>= λ x. many_at one (count - (i + 1)) x.0 x.1)
unfolding many_at
turn one count i found bytes lt =
    let k : count - i ≡ suc (count - (i + 1)) = omega arith in
    ap (λ (n : ℕ). many_at one n found bytes) k

abbrev pub Goes : {A : Type 0} → Bool → (A → List ℕ → Option (A × List ℕ)) → ℕ → Option (A × List ℕ) → List ℕ → Option (A × List ℕ) → Type 0
Goes {A} c one left o next all = (g : A) × Leads c (many_at one left g next) all × (c ≡ true → o ≡ Some (g, next))

goes_from : {A : Type 0} (c : Bool) (one : A → List ℕ → Option (A × List ℕ)) (left : ℕ) (found : A) (o : Option (A × List ℕ)) (next : List ℕ) (all : Option (A × List ℕ)) → IsBehind c o (Some next)
    → Leads c (o >>= λ x. many_at one left x.0 x.1) all → Goes c one left o next all
goes_from {A} c one left found (Some x) next all h leads =
    let is : x.1 ≡ next = sym (same_Some next x.1 h) in
    (x.0, subst (λ (b : List ℕ). Leads c (many_at one left x.0 b) all) is leads, λ _. ap (λ (b : List ℕ). Some (x.0, b)) is)
goes_from true one left found None next all h leads = absurd cc
goes_from false one left found None next all h leads = (found, λ r b. leads r tt, λ e. absurd cc)

pub goes : {A : Type 0} (c : Bool) (one : A → List ℕ → Option (A × List ℕ)) (count i : ℕ) (found : A) (bytes next : List ℕ) (all : Option (A × List ℕ)) → i < count
    → IsBehind c (one found bytes) (Some next) → Leads c (many_at one (count - i) found bytes) all → Goes c one (count - (i + 1)) (one found bytes) next all
goes {A} c one count i found bytes next all lt h leads =
    goes_from c one (count - (i + 1)) found (one found bytes) next all h (subst (λ (o : Option (A × List ℕ)). Leads c o all) (turn one count i found bytes lt) leads)

stops_from : {A : Type 0} (c : Bool) (one : A → List ℕ → Option (A × List ℕ)) (left : ℕ) (o all : Option (A × List ℕ)) → IsBehind c o None
    → Leads c (o >>= λ x. many_at one left x.0 x.1) all → IsBehind c all None
stops_from c one left (Some x) all h leads = absurd cc
stops_from true one left None all h leads = leads None refl
stops_from false one left None all h leads = leads None tt

pub stops : {A : Type 0} (c : Bool) (one : A → List ℕ → Option (A × List ℕ)) (count i : ℕ) (found : A) (bytes : List ℕ) (all : Option (A × List ℕ)) → i < count
    → IsBehind c (one found bytes) None → Leads c (many_at one (count - i) found bytes) all → IsBehind c all None
stops {A} c one count i found bytes all lt h leads =
    stops_from c one (count - (i + 1)) (one found bytes) all h (subst (λ (o : Option (A × List ℕ)). Leads c o all) (turn one count i found bytes lt) leads)

pub ends : {A : Type 0} (c : Bool) (one : A → List ℕ → Option (A × List ℕ)) (count i : ℕ) (found : A) (bytes : List ℕ) (all : Option (A × List ℕ)) → count ≤ i
    → Leads c (many_at one (count - i) found bytes) all → IsBehind c all (Some bytes)
unfolding many_at
ends {A} c one count i found bytes all le leads =
    let k : count - i ≡ 0 = omega arith in
    leads (Some bytes) (rw k refl)

-- one more piece after those that were read
pub one_more : {A : Type 0} (one : A → List ℕ → Option (A × List ℕ)) (n : ℕ) (start : A) (bytes : List ℕ) (x y : A × List ℕ) → many_at one n start bytes ≡ Some x → one x.0 x.1 ≡ Some y
    → many_at one (n + 1) start bytes ≡ Some y
unfolding many_at
one_more {A} one zero start bytes x y e f =
    let is : (start, bytes) ≡ x = same_Some (start, bytes) x e in
    let first : one start bytes ≡ Some y = subst (λ (z : A × List ℕ). one z.0 z.1 ≡ Some y) (sym is) f in
    rw first refl
one_more {A} one (suc n) start bytes x y e f =
    let b = bind_some (one start bytes) (λ z. many_at one n z.0 z.1) x e in
    let k : suc n + 1 ≡ suc (n + 1) = omega arith in
    ap (λ (m : ℕ). many_at one m start bytes) k ∙ rw b.1 (one_more one n b.0.0 b.0.1 x y b.2 f)

-- ---- members

passes_put : (c : Bool) (key : List ℕ) (found : Members) (v : Data × List ℕ) (next : List ℕ) → v.1 ≡ next → (there : Bool) → is_some (get_member key found) ≡ there → (c ≡ true → there ≡ false)
    → IsBehind c (put_new key v.0 found >>= λ all. Some (all, v.1)) (Some next)
unfolding put_new
passes_put c key found v next e false is new = rw is (ap (λ (b : List ℕ). Some b) (sym e))
passes_put true key found v next e true is new = absurd (let t = new refl in cc)
passes_put false key found v next e true is new = rw is tt

passes_value : (c : Bool) (key : List ℕ) (found : Members) (o : Option (Data × List ℕ)) (next : List ℕ) → IsBehind c o (Some next) → (c ≡ true → is_some (get_member key found) ≡ false)
    → IsBehind c (o >>= λ v. put_new key v.0 found >>= λ all. Some (all, v.1)) (Some next)
passes_value c key found (Some v) next h new = passes_put c key found v next (sym (same_Some next v.1 h)) _ refl new
passes_value true key found None next h new = absurd cc
passes_value false key found None next h new = tt

pub member_passes : (c : Bool) (one : List ℕ → Option (Data × List ℕ)) (found : Members) (bytes : List ℕ) (k : List ℕ × List ℕ) (next : List ℕ) → key_at bytes ≡ Some k → IsBehind c (one k.1) (Some next)
    → (c ≡ true → is_some (get_member k.0 found) ≡ false) → IsBehind c (next_member one found bytes) (Some next)
unfolding next_member
member_passes c one found bytes k next e h new = rw e (passes_value c k.0 found (one k.1) next h new)

stops_value : (c : Bool) (key : List ℕ) (found : Members) (o : Option (Data × List ℕ)) → IsBehind c o None
    → IsBehind c (o >>= λ v. put_new key v.0 found >>= λ all. Some (all, v.1)) None
stops_value c key found (Some v) h = absurd cc
stops_value true key found None h = refl
stops_value false key found None h = tt

pub member_stops : (c : Bool) (one : List ℕ → Option (Data × List ℕ)) (found : Members) (bytes : List ℕ) (k : List ℕ × List ℕ) → key_at bytes ≡ Some k → IsBehind c (one k.1) None
    → IsBehind c (next_member one found bytes) None
unfolding next_member
member_stops c one found bytes k e h = rw e (stops_value c k.0 found (one k.1) h)

abbrev put_behind : List ℕ → Members → Data × List ℕ → Option (Members × List ℕ)
put_behind key found v = put_new key v.0 found >>= λ all. Some (all, v.1)

equal_value : (key : List ℕ) (found : Members) (o : Option (Data × List ℕ)) → is_some (get_member key found) ≡ true → (o >>= put_behind key found) ≡ None
unfolding put_new
equal_value key found (Some v) is = rw is refl
equal_value key found None is = refl

pub member_again : (c : Bool) (one : List ℕ → Option (Data × List ℕ)) (found : Members) (bytes : List ℕ) (k : List ℕ × List ℕ) → key_at bytes ≡ Some k → is_some (get_member k.0 found) ≡ true
    → IsBehind c (next_member one found bytes) None
unfolding next_member
member_again c one found bytes k e is = nothing c (next_member one found bytes) (rw e (equal_value k.0 found (one k.1) is))

-- what one more member has beside its key
pub record OneMore (one : List ℕ → Option (Data × List ℕ)) (left : ℕ) (found : Members) (k : List ℕ × List ℕ) (x : Members × List ℕ) : Type 0 where
  pub value : Data × List ℕ
  pub all : Members
  pub value_is : one k.1 ≡ Some value
  pub all_is : put_new k.0 value.0 found ≡ Some all
  pub left_is : many_at (next_member one) left all value.1 ≡ Some x

member_parts : (one : List ℕ → Option (Data × List ℕ)) (count i : ℕ) (found : Members) (bytes : List ℕ) (x : Members × List ℕ) → i < count
    → many_at (next_member one) (count - i) found bytes ≡ Some x → (k : List ℕ × List ℕ) × (key_at bytes ≡ Some k) × OneMore one (count - (i + 1)) found k x
unfolding next_member
member_parts one count i found bytes x lt e =
    let b = bind_some (next_member one found bytes) (λ y. many_at (next_member one) (count - (i + 1)) y.0 y.1) x (sym (turn (next_member one) count i found bytes lt) ∙ e) in
    let key = bind_some (key_at bytes) _ b.0 b.1 in
    let value = bind_some (one key.0.1) _ b.0 key.2 in
    let members = bind_some (put_new key.0.0 value.0.0 found) (λ all. Some (all, value.0.1)) b.0 value.2 in
    let is : (members.0, value.0.1) ≡ b.0 = same_Some (members.0, value.0.1) b.0 members.2 in
    let left : many_at (next_member one) (count - (i + 1)) members.0 value.0.1 ≡ Some x =
    subst (λ (y : Members × List ℕ). many_at (next_member one) (count - (i + 1)) y.0 y.1 ≡ Some x) (sym is) b.2 in
    (key.0, key.1, record { value = value.0; all = members.0; value_is = value.1; all_is = members.1; left_is = left })

pub one_more_of : (one : List ℕ → Option (Data × List ℕ)) (count i : ℕ) (found : Members) (bytes : List ℕ) (k : List ℕ × List ℕ) (x : Members × List ℕ) → i < count → key_at bytes ≡ Some k
    → many_at (next_member one) (count - i) found bytes ≡ Some x → OneMore one (count - (i + 1)) found k x
one_more_of one count i found bytes k x lt h e =
    let parts = member_parts one count i found bytes x lt e in
    let same : parts.0 ≡ k = same_Some parts.0 k (sym parts.1 ∙ h) in
    subst (λ (l : List ℕ × List ℕ). OneMore one (count - (i + 1)) found l x) same parts.2

pub never_keyless : (one : List ℕ → Option (Data × List ℕ)) (count i : ℕ) (found : Members) (bytes : List ℕ) (x : Members × List ℕ) → i < count → key_at bytes ≡ None
    → many_at (next_member one) (count - i) found bytes ≡ Some x → ⊥
never_keyless one count i found bytes x lt h e =
    let parts = member_parts one count i found bytes x lt e in
    let n : None ≡ Some parts.0 = sym h ∙ parts.1 in
    absurd cc

-- where a value is read, the pass is after it
pub behind_value : (o : Option (Data × List ℕ)) (v : Data × List ℕ) (r : Option (List ℕ)) → o ≡ Some v → IsBehind false o r → r ≡ Some v.1
behind_value o v r e h = subst (λ (p : Option (Data × List ℕ)). IsBehind false p r) e h

pub never_stopped : (o : Option (Data × List ℕ)) (v : Data × List ℕ) → o ≡ Some v → IsBehind false o None → ⊥
never_stopped o v e h = let n : None ≡ Some v.1 = behind_value o v None e h in absurd cc

pub left_from : (one : List ℕ → Option (Data × List ℕ)) (left : ℕ) (found : Members) (k : List ℕ × List ℕ) (x : Members × List ℕ) (next : List ℕ) (m : OneMore one left found k x) → IsBehind false (one k.1) (Some next)
    → many_at (next_member one) left m.all next ≡ Some x
left_from one left found k x next m h =
    let is : next ≡ m.value.1 = same_Some next m.value.1 (behind_value (one k.1) m.value (Some next) m.value_is h) in
    subst (λ (b : List ℕ). many_at (next_member one) left m.all b ≡ Some x) (sym is) m.left_is

pub at_start : (one : List ℕ → Option (Data × List ℕ)) (count : ℕ) (bytes : List ℕ) (x : Members × List ℕ) → many_at (next_member one) count no_members bytes ≡ Some x
    → many_at (next_member one) (count - 0) no_members bytes ≡ Some x
at_start one count bytes x e = let k : count - 0 ≡ count = omega arith in ap (λ (n : ℕ). many_at (next_member one) n no_members bytes) k ∙ e

pub at_end : (one : List ℕ → Option (Data × List ℕ)) (count i : ℕ) (found : Members) (bytes : List ℕ) (x : Members × List ℕ) → count ≤ i → many_at (next_member one) (count - i) found bytes ≡ Some x
    → found ≡ x.0
unfolding many_at
at_end one count i found bytes x le e =
    let k : count - i ≡ 0 = omega arith in
    let is : (found, bytes) ≡ x = same_Some (found, bytes) x (sym (ap (λ (n : ℕ). many_at (next_member one) n found bytes) k) ∙ e) in
    ap (λ (y : Members × List ℕ). y.0) is

put_is : (key : List ℕ) (d : Data) (found all : Members) (there : Bool) → is_some (get_member key found) ≡ there → put_new key d found ≡ Some all → all ≡ put key d found
unfolding put_new
put_is key d found all false is e = sym (same_Some (put key d found) all (sym (rw is refl) ∙ e))
put_is key d found all true is e = absurd (let n : None ≡ Some all = sym (rw is refl) ∙ e in cc)

pub put_same : (name key : List ℕ) (d : Data) (found all : Members) → key ≡ name → put_new key d found ≡ Some all → is_some (get_member name all) ≡ true
put_same name key d found all same e =
    rw (put_is key d found all _ refl e, ← same, get_member-put key d found) refl

pub put_other : (name key : List ℕ) (d : Data) (found all : Members) → ¬ (key ≡ name) → put_new key d found ≡ Some all → is_some (get_member name all) ≡ is_some (get_member name found)
put_other name key d found all other e =
    rw (put_is key d found all _ refl e, get_member-put_other name key d found (λ h. other (sym h))) refl

pub text_same : (a b : List ℕ) → bytes_eq a b ≡ true → a ≡ b
text_same a b e = (bytes_eq-Decides a b).0 e

pub text_other : (a b : List ℕ) → bytes_eq a b ≡ false → ¬ (a ≡ b)
text_other a b e same = true≢false (sym ((bytes_eq-Decides a b).1 same) ∙ e)

-- ---- a whole input

only_empty : (d : Data) (rest : List ℕ) → is_some (only d rest) ≡ (length rest == 0)
only_empty d [] = refl
only_empty d (b ∷ rest) = sym (ne_eqb (length (b ∷ rest)) 0 (λ e. absurd (omega (arith, e))))

whole_some : (o : Option (Data × List ℕ)) (rest : List ℕ) → IsBehind true o (Some rest) → is_some (o >>= λ x. only x.0 x.1) ≡ (length rest == 0)
whole_some (Some x) rest h = only_empty x.0 x.1 ∙ ap (λ (b : List ℕ). length b == 0) (sym (same_Some rest x.1 h))
whole_some None rest h = absurd cc

whole_none : (o : Option (Data × List ℕ)) → IsBehind true o None → is_some (o >>= λ x. only x.0 x.1) ≡ false
whole_none (Some x) h = absurd cc
whole_none None h = refl

pub taken_rest : (bytes rest : List ℕ) → IsBehind true (item_at 32 bytes) (Some rest) → is_some (denoted bytes) ≡ (length rest == 0)
unfolding denoted
taken_rest bytes rest h = whole_some (item_at 32 bytes) rest h

pub taken_none : (bytes : List ℕ) → IsBehind true (item_at 32 bytes) None → is_some (denoted bytes) ≡ false
unfolding denoted
taken_none bytes h = whole_none (item_at 32 bytes) h
