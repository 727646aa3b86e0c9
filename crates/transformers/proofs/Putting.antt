-- A pass over a JSON value that writes it, step by step.
use Rattle.std.proofs.Common.{◌≡◌, ℕ, zero, suc, ◌+◌, ◌-◌, ◌<◌, ◌≤◌, ◌^◌, negsuc, List, [], ◌∷◌, ◌++◌, length, drop, get_or, Bool, false, Option, Some, None, IsSome, is_some, option_map, option_and_then, Global, IsUtf8, refl, sym, ap, ◌∙◌, subst, arith, append_assoc, append-nil, true≢false}
use Rattle.std.proofs.lemmas.Bool.{or_parts}
use Rattle.std.proofs.lemmas.Option.{same_Some}
use Rattle.json.specs.Json as json
use Rattle.json.specs.Json.{Json}
use Rattle.json.specs.Value.{value_view, items_view}
use Rattle.json.specs.declared.value.Value.{Value}
use Rattle.serde_json.specs.Data.{Data, unsigned, negative, float, null, boolean, number, string, array, object, Items, no_items, item, Members, depth, items_depth}
use Rattle.serde_json.specs.Events.{items_len}
use Rattle.serde_json.specs.Read.{number_of, of_json, of_items}
use Rattle.serde_json.specs.Written.{has_float, items_have_float}
use Rattle.transformers.specs.declared.head.Major.TheVariants.{Unsigned, Negative, Array}
use Rattle.transformers.specs.Item.{simple_data}
use Rattle.transformers.specs.Puts.{PutsItem, PutsItems, PutsMembers, RefusesItem, RefusesItems, RefusesMembers}
use Rattle.transformers.specs.Shortest.{shortest, shortest_head, items_bytes, text_bytes}
use Rattle.transformers.specs.Told.{IsSound, AreSound}

-- ---- options

pub some_of : {A : Type 0} (o : Option A) → IsSome o → (a : A) × (o ≡ Some a)
some_of None h = absurd (true≢false (sym h))
some_of (Some a) h = (a, refl)

pub is_some_of : {A : Type 0} (o : Option A) (a : A) → o ≡ Some a → IsSome o
is_some_of o a e = rw e refl

pub then_some : {A B : Type 0} (o : Option A) (f : A → Option B) (b : B) → option_and_then f o ≡ Some b → (a : A) × (o ≡ Some a) × (f a ≡ Some b)
then_some None f b e = absurd cc
then_some (Some a) f b e = (a, refl, e)

map_some : {A B : Type 0} (o : Option A) (f : A → B) (b : B) → option_map f o ≡ Some b → (a : A) × (o ≡ Some a) × (f a ≡ b)
map_some None f b e = absurd cc
map_some (Some a) f b e = (a, refl, same_Some (f a) b e)

pub drop_step : {A : Type 0} (i : ℕ) (xs : List A) (x : A) → i < length xs → x ≡ get_or xs i x → drop i xs ≡ x ∷ drop (i + 1) xs
drop_step i [] x lt is = absurd (omega arith)
drop_step zero (y ∷ xs) x lt is = ap (λ z. z ∷ xs) (sym is)
drop_step (suc i) (y ∷ xs) x lt is =
    let k : suc (i + 1) ≡ suc i + 1 = omega arith in
    drop_step i xs x (omega arith) is ∙ ap (λ n. x ∷ drop n (y ∷ xs)) k

-- ---- one value

pub simple_put : (levels : ℕ) (s : Option Bool) (old new : List ℕ) → new ≡ old ++ shortest (simple_data s) → PutsItem levels (Some (simple_data s)) old new
simple_put levels None old new e = record { value = null; is = refl; good = tt; nested = omega arith; told = e }
simple_put levels (Some b) old new e = record { value = boolean b; is = refl; good = tt; nested = omega arith; told = e }

pub text_put : (levels : ℕ) (s old new : List ℕ) → IsUtf8 s → new ≡ old ++ text_bytes s → PutsItem levels (Some (string s)) old new
text_put levels s old new utf8 e = record { value = string s; is = refl; good = utf8; nested = omega arith; told = e }

pub unsigned_put : (levels n : ℕ) (text old new : List ℕ) → Some (unsigned n) ≡ number_of text → n < 2 ^ 64 → new ≡ old ++ shortest_head Unsigned n → PutsItem levels (of_json (json.number text)) old new
unsigned_put levels n text old new is fit e = record { value = number (unsigned n); is = ap (option_map number) (sym is); good = fit; nested = omega arith; told = e }

pub negative_put : (levels n : ℕ) (text old new : List ℕ) → Some (negative (negsuc n)) ≡ number_of text → n < 2 ^ 63 → new ≡ old ++ shortest_head Negative n → PutsItem levels (of_json (json.number text)) old new
negative_put levels n text old new is fit e = record { value = number (negative (negsuc n)); is = ap (option_map number) (sym is); good = (n, refl, fit); nested = omega arith; told = e }

pub float_refused : (levels : ℕ) (text : List ℕ) (x : _) → Some (float x) ≡ number_of text → RefusesItem levels (of_json (json.number text))
float_refused levels text x is d e within =
    let same : number (float x) ≡ d = same_Some _ _ (ap (option_map number) is ∙ e) in
    true≢false (subst (λ (y : Data). has_float y ≡ false) (sym same) within.0)

pub none_refused : (levels : ℕ) (text : List ℕ) → None ≡ number_of text → RefusesItem levels (of_json (json.number text))
none_refused levels text is d e within = absurd (true≢false (sym (ap is_some (ap (option_map number) is ∙ e))))

-- the same, of what reads alike
pub as_put : (levels : ℕ) (r s : Option Data) (old new : List ℕ) → r ≡ s → PutsItem levels s old new → PutsItem levels r old new
as_put levels r s old new e p = record { value = p.value; is = e ∙ p.is; good = p.good; nested = p.nested; told = p.told }

pub as_refused : (levels : ℕ) (r s : Option Data) → r ≡ s → RefusesItem levels s → RefusesItem levels r
as_refused levels r s e refuses d is = refuses d (sym e ∙ is)

-- ---- the items of an array

pub items_split : (j : Json) (js : json.Items) (ds : Items) → of_items (json.item j js) ≡ Some ds → (d : Data) × (es : Items) × (of_json j ≡ Some d) × (of_items js ≡ Some es) × (item d es ≡ ds)
items_split j js ds e =
    let a = then_some (of_json j) (λ d. option_map (item d) (of_items js)) ds e in
    let b = map_some (of_items js) (item a.0) ds a.2 in
    (a.0, b.0, a.1, b.1, b.2)

pub items_counted : (vs : List (Value Global)) (ds : Items) → of_items (items_view vs) ≡ Some ds → items_len ds ≡ length vs
items_counted [] ds e = ap items_len (sym (same_Some no_items ds e))
items_counted (v ∷ vs) ds e =
    let s = items_split (value_view v) (items_view vs) ds e in
    ap items_len (sym s.4) ∙ ap suc (items_counted vs s.1 s.3)

-- those that are left are the end of all of them
pub record ItemsLeft (levels : ℕ) (left : List (Value Global)) (all : Items) (start out : List ℕ) : Type 0 where
  pub value : Items
  pub is : of_items (items_view left) ≡ Some value
  pub good : AreSound value → AreSound all
  pub nested : items_depth value ≤ levels → items_depth all ≤ levels
  pub whole : items_have_float all ≡ false → items_have_float value ≡ false
  pub shallow : items_depth all ≤ levels → items_depth value ≤ levels
  pub told : out ++ items_bytes value ≡ start ++ items_bytes all

pub items_begun : (levels : ℕ) (vs : List (Value Global)) (all : Items) (start out : List ℕ) → of_items (items_view vs) ≡ Some all → out ≡ start → ItemsLeft levels vs all start out
items_begun levels vs all start out is e =
    record { value = all; is = is; good = λ h. h; nested = λ h. h; whole = λ h. h; shallow = λ h. h; told = ap (λ (x : List ℕ). x ++ items_bytes all) e }

-- the same, of a list that is the same
pub items_at : (levels : ℕ) (left next : List (Value Global)) (all : Items) (start out : List ℕ) → left ≡ next → ItemsLeft levels left all start out → ItemsLeft levels next all start out
items_at levels left next all start out e l = subst (λ vs. ItemsLeft levels vs all start out) e l

pub item_readable : (levels : ℕ) (v : Value Global) (vs : List (Value Global)) (all : Items) (start out : List ℕ) → ItemsLeft levels (v ∷ vs) all start out → IsSome (of_json (value_view v))
item_readable levels v vs all start out l =
    let s = items_split (value_view v) (items_view vs) l.value l.is in is_some_of (of_json (value_view v)) s.0 s.2

pub item_put : (levels : ℕ) (v : Value Global) (vs : List (Value Global)) (all : Items) (start old new : List ℕ) → ItemsLeft levels (v ∷ vs) all start old → PutsItem levels (of_json (value_view v)) old new → ItemsLeft levels vs all start new
item_put levels v vs all start old new l p =
    let s = items_split (value_view v) (items_view vs) l.value l.is in
    let same : p.value ≡ s.0 = same_Some p.value s.0 (sym p.is ∙ s.2) in
    let sound : IsSound s.0 = subst IsSound same p.good in
    let within : depth s.0 ≤ levels = subst (λ (d : Data). depth d ≤ levels) same p.nested in
    record {
      value = s.1;
      is = s.3;
      good = λ h. l.good (subst AreSound s.4 (sound, h));
      nested = λ h. l.nested (subst (λ (ds : Items). items_depth ds ≤ levels) s.4 (omega (arith, within, h)));
      whole = λ h. (or_parts (has_float s.0) (items_have_float s.1) (subst (λ (ds : Items). items_have_float ds ≡ false) (sym s.4) (l.whole h))).1;
      shallow = λ h. (let both : items_depth (item s.0 s.1) ≤ levels = subst (λ (ds : Items). items_depth ds ≤ levels) (sym s.4) (l.shallow h) in omega (arith, both));
      told = ap (λ (x : List ℕ). x ++ items_bytes s.1) (p.told ∙ ap (λ (d : Data). old ++ shortest d) same) ∙ append_assoc old (shortest s.0) (items_bytes s.1) ∙ ap (λ (ds : Items). old ++ items_bytes ds) s.4 ∙ l.told;
    }

pub item_refused : (levels : ℕ) (v : Value Global) (vs : List (Value Global)) (all : Items) (start out : List ℕ) (read : Option Items) → ItemsLeft levels (v ∷ vs) all start out → read ≡ Some all → RefusesItem levels (of_json (value_view v)) → RefusesItems levels read
item_refused levels v vs all start out read l is refuses x e within =
    let s = items_split (value_view v) (items_view vs) l.value l.is in
    let same : x ≡ all = same_Some x all (sym e ∙ is) in
    let whole = (or_parts (has_float s.0) (items_have_float s.1) (subst (λ (ds : Items). items_have_float ds ≡ false) (sym s.4) (l.whole (subst (λ (ds : Items). items_have_float ds ≡ false) same within.0)))).0 in
    let both : items_depth (item s.0 s.1) ≤ levels = subst (λ (ds : Items). items_depth ds ≤ levels) (sym s.4) (l.shallow (subst (λ (ds : Items). items_depth ds ≤ levels) same within.1)) in
    refuses s.0 s.2 (whole, omega (arith, both))

pub items_done : (levels count : ℕ) (all : Items) (start before out : List ℕ) (read : Option Items) → ItemsLeft levels [] all start out → read ≡ Some all → start ≡ before ++ shortest_head Array count → count ≡ items_len all → PutsItems levels read before out
items_done levels count all start before out read l is head counted =
    let none : no_items ≡ l.value = same_Some no_items l.value l.is in
    record {
      value = all;
      is = is;
      good = l.good (subst AreSound none tt);
      nested = l.nested (subst (λ (ds : Items). items_depth ds ≤ levels) none (omega arith));
      told = sym (append-nil out) ∙ ap (λ (ds : Items). out ++ items_bytes ds) none ∙ l.told ∙ ap (λ (x : List ℕ). x ++ items_bytes all) head
          ∙ append_assoc before (shortest_head Array count) (items_bytes all) ∙ ap (λ (n : ℕ). before ++ (shortest_head Array n ++ items_bytes all)) counted;
    }

pub array_put : (levels : ℕ) (read : Option Items) (old new : List ℕ) → 0 < levels → PutsItems (levels - 1) read old new → PutsItem levels (option_map array read) old new
array_put levels read old new lt p = record { value = array p.value; is = ap (option_map array) p.is; good = p.good; nested = omega (arith, lt, p.nested); told = p.told }

pub array_refused : (levels : ℕ) (read : Option Items) → 0 < levels → RefusesItems (levels - 1) read → RefusesItem levels (option_map array read)
array_refused levels read lt refuses d e within =
    let s = map_some read array d e in
    let both = subst (λ (x : Data). (has_float x ≡ false) × (depth x ≤ levels)) (sym s.2) within in
    refuses s.0 s.1 (both.0, omega (arith, lt, both.1))

pub array_too_deep : (levels : ℕ) (read : Option Items) → levels ≤ 0 → RefusesItem levels (option_map array read)
array_too_deep levels read le d e within =
    let s = map_some read array d e in
    let both = subst (λ (x : Data). (has_float x ≡ false) × (depth x ≤ levels)) (sym s.2) within in
    omega (arith, le, both.1)

pub object_put : (levels : ℕ) (read : Option Members) (old new : List ℕ) → 0 < levels → PutsMembers (levels - 1) read old new → PutsItem levels (option_map object read) old new
object_put levels read old new lt p = record { value = object p.value; is = ap (option_map object) p.is; good = p.good; nested = omega (arith, lt, p.nested); told = p.told }

pub object_refused : (levels : ℕ) (read : Option Members) → 0 < levels → RefusesMembers (levels - 1) read → RefusesItem levels (option_map object read)
object_refused levels read lt refuses d e within =
    let s = map_some read object d e in
    let both = subst (λ (x : Data). (has_float x ≡ false) × (depth x ≤ levels)) (sym s.2) within in
    refuses s.0 s.1 (both.0, omega (arith, lt, both.1))

pub object_too_deep : (levels : ℕ) (read : Option Members) → levels ≤ 0 → RefusesItem levels (option_map object read)
object_too_deep levels read le d e within =
    let s = map_some read object d e in
    let both = subst (λ (x : Data). (has_float x ≡ false) × (depth x ≤ levels)) (sym s.2) within in
    omega (arith, le, both.1)
