-- Whether what is left of items or members stands for something.
use Rattle.std.proofs.Common.{◌≡◌, ℕ, zero, suc, ◌≤◌, List, [], ◌∷◌, length, drop, true, false, Option, Some, None, is_some, option_map, option_and_then, refl, arith}
use Rattle.json.specs.Json as json
use Rattle.json.specs.Json.{Json}
use Rattle.serde_json.specs.Data.{Data, array, object, Items, item, Members, put}
use Rattle.serde_json.specs.Read.{of_json, of_items, of_members}

pub drop_end : {A : Type 0} (i : ℕ) (xs : List A) → length xs ≤ i → drop i xs ≡ []
drop_end zero [] le = refl
drop_end (suc i) [] le = refl
drop_end zero (x ∷ xs) le = absurd (omega arith)
drop_end (suc i) (x ∷ xs) le = drop_end i xs (omega arith)

item_on : (o : Option Data) (p : Option Items) → is_some o ≡ true → is_some (option_and_then (λ d. option_map (item d) p) o) ≡ is_some p
item_on None p e = absurd cc
item_on (Some d) None e = refl
item_on (Some d) (Some ds) e = refl

pub items_on : (j : Json) (js : json.Items) → is_some (of_json j) ≡ true → is_some (of_items (json.item j js)) ≡ is_some (of_items js)
items_on j js e = item_on (of_json j) (of_items js) e

item_off : (o : Option Data) (p : Option Items) → is_some o ≡ false → is_some (option_and_then (λ d. option_map (item d) p) o) ≡ false
item_off None p e = refl
item_off (Some d) p e = absurd cc

pub items_off : (j : Json) (js : json.Items) → is_some (of_json j) ≡ false → is_some (of_items (json.item j js)) ≡ false
items_off j js e = item_off (of_json j) (of_items js) e

member_on : (more : Members → Option Members) (k : List ℕ) (found : Members) (o : Option Data) → is_some o ≡ true
    → (later : Members) × (is_some (option_and_then (λ d. more (put k d found)) o) ≡ is_some (more later))
member_on more k found None e = absurd cc
member_on more k found (Some d) e = (put k d found, refl)

pub members_on : (k : List ℕ) (j : Json) (js : json.Members) (found : Members) → is_some (of_json j) ≡ true → (later : Members) × (is_some (of_members (json.member k j js) found) ≡ is_some (of_members js later))
members_on k j js found e = member_on (λ ms. of_members js ms) k found (of_json j) e

member_off : (more : Members → Option Members) (k : List ℕ) (found : Members) (o : Option Data) → is_some o ≡ false → is_some (option_and_then (λ d. more (put k d found)) o) ≡ false
member_off more k found None e = refl
member_off more k found (Some d) e = absurd cc

pub members_off : (k : List ℕ) (j : Json) (js : json.Members) (found : Members) → is_some (of_json j) ≡ false → is_some (of_members (json.member k j js) found) ≡ false
members_off k j js found e = member_off (λ ms. of_members js ms) k found (of_json j) e

pub some_array : (o : Option Items) → is_some (option_map array o) ≡ is_some o
some_array None = refl
some_array (Some ds) = refl

pub some_object : (o : Option Members) → is_some (option_map object o) ≡ is_some o
some_object None = refl
some_object (Some ms) = refl
