-- Arrays of tables, read one after the other.
use Rattle.std.proofs.Common.{◌≡◌, ℕ, ◌+◌, ◌<◌, List, [], ◌∷◌, ◌++◌, length, drop, get_or, append_assoc, append-nil, sym, refl, subst, ◌≤◌, Result, Err}
use Rattle.std.proofs.lemmas.List.{drop_all}
use Rattle.proxy_settings.specs.declared.fault.SetupFault.{SetupFault}
use Rattle.proxy_settings.specs.declared.fault.SetupFault.TheVariants.{Refused, Memory}
use Rattle.proxy_settings.specs.Steps.{Finds}
use Rattle.toml.specs.Data.{Data, Items, no_items, item, Members}
use Rattle.toml.specs.declared.value.Value.{Value}
use Rattle.toml.specs.View.{view, items_view}
use Rattle.toml.proofs.Views.{items_view-drop}
use Rattle.proxy_settings.specs.Members.{IsTable, AreTables}

-- What stands for the rest stands for the whole after the rows so far, and only where something stands for the
-- whole does something stand for the rest.
pub record Completes {A : Type 0} (IsRow : Members → A → Type 0) (whole rest : Items) (rows : List A) : Type 0 where
  pub back : (more : List A) → AreTables IsRow rest more → AreTables IsRow whole (rows ++ more)
  pub forth : (all : List A) → AreTables IsRow whole all → (more : List A) × AreTables IsRow rest more

-- the first row, and the others
pub first_row : {A : Type 0} (IsRow : Members → A → Type 0) (d : Data) (ds : Items) (rows : List A) → AreTables IsRow (item d ds) rows → (x : A) × IsTable IsRow d x
first_row IsRow d ds [] h = absurd h
first_row IsRow d ds (x ∷ xs) h = (x, h.0)

pub other_rows : {A : Type 0} (IsRow : Members → A → Type 0) (d : Data) (ds : Items) (rows : List A) → AreTables IsRow (item d ds) rows → (more : List A) × AreTables IsRow ds more
other_rows IsRow d ds [] h = absurd h
other_rows IsRow d ds (x ∷ xs) h = (xs, h.1)

pub one_more : {A : Type 0} (IsRow : Members → A → Type 0) (whole : Items) (d : Data) (ds : Items) (rows : List A) (x : A)
    → IsTable IsRow d x → Completes IsRow whole (item d ds) rows → Completes IsRow whole ds (rows ++ x ∷ [])
one_more IsRow whole d ds rows x is h = record {
  back = λ more r. subst (λ l. AreTables IsRow whole l) (sym (append_assoc rows (x ∷ []) more)) (h.back (x ∷ more) (is, r));
  forth = λ all w. let (ys, r) = h.forth all w in other_rows IsRow d ds ys r;
}

-- The same over the values of an array, at an index.
pub row_goes_on : {A : Type 0} (IsRow : Members → A → Type 0) (vs : List Value) (i : ℕ) (v : Value) (rows : List A) (x : A)
    → i < length vs → get_or vs i v ≡ v → IsTable IsRow (view v) x
    → Completes IsRow (items_view vs) (items_view (drop i vs)) rows
    → Completes IsRow (items_view vs) (items_view (drop (i + 1) vs)) (rows ++ x ∷ [])
row_goes_on IsRow vs i v rows x below at is h =
    one_more IsRow (items_view vs) (view v) (items_view (drop (i + 1) vs)) rows x is (rw (items_view-drop vs i v below, at) at h)

pub row_fails : {A : Type 0} (IsRow : Members → A → Type 0) (vs : List Value) (i : ℕ) (v : Value) (rows : List A)
    → i < length vs → get_or vs i v ≡ v → ((x : A) → IsTable IsRow (view v) x → ⊥)
    → Completes IsRow (items_view vs) (items_view (drop i vs)) rows
    → (all : List A) → AreTables IsRow (items_view vs) all → ⊥
row_fails IsRow vs i v rows below at none h all w =
    let (ys, r) = h.forth all w in
    let (x, is) = first_row IsRow (view v) (items_view (drop (i + 1) vs)) ys (rw (items_view-drop vs i v below, at) at r) in
    none x is

pub rows_done : {A : Type 0} (IsRow : Members → A → Type 0) (whole : Items) (rows : List A)
    → Completes IsRow whole no_items rows → AreTables IsRow whole (rows ++ [])
rows_done IsRow whole rows h = h.back [] tt

-- Rows were found so far.
abbrev pub Checked : {A : Type 0} → (Members → A → Type 0) → Items → Items → Type 0
Checked {A} IsRow whole rest = (rows : List A) × Completes IsRow whole rest rows

pub checked_more : {A : Type 0} (IsRow : Members → A → Type 0) (vs : List Value) (i : ℕ) (v : Value)
    → i < length vs → get_or vs i v ≡ v → (x : A) × IsTable IsRow (view v) x
    → Checked IsRow (items_view vs) (items_view (drop i vs)) → Checked IsRow (items_view vs) (items_view (drop (i + 1) vs))
checked_more IsRow vs i v below at (x, is) (rows, h) = (rows ++ x ∷ [], row_goes_on IsRow vs i v rows x below at is h)

pub checked_fails : {A : Type 0} (IsRow : Members → A → Type 0) (vs : List Value) (i : ℕ) (v : Value)
    → i < length vs → get_or vs i v ≡ v → ((x : A) → IsTable IsRow (view v) x → ⊥)
    → Checked IsRow (items_view vs) (items_view (drop i vs)) → (all : List A) → AreTables IsRow (items_view vs) all → ⊥
checked_fails IsRow vs i v below at none (rows, h) = row_fails IsRow vs i v rows below at none h

-- no value is left after the last
pub none_left : (vs : List Value) (i : ℕ) → length vs ≤ i → items_view (drop i vs) ≡ no_items
none_left vs i h = rw (drop_all i vs h) refl

pub checked_done : {A : Type 0} (IsRow : Members → A → Type 0) (vs : List Value) (i : ℕ) → length vs ≤ i
    → Checked IsRow (items_view vs) (items_view (drop i vs)) → (all : List A) × AreTables IsRow (items_view vs) all
checked_done IsRow vs i end (rows, h) = (rows ++ [], rows_done IsRow (items_view vs) rows (rw (none_left vs i end) at h))

pub rows_all : {A : Type 0} (IsRow : Members → A → Type 0) (vs : List Value) (i : ℕ) (rows : List A) → length vs ≤ i
    → Completes IsRow (items_view vs) (items_view (drop i vs)) rows → AreTables IsRow (items_view vs) rows
rows_all IsRow vs i rows end h =
    subst (λ l. AreTables IsRow (items_view vs) l) (append-nil rows) (rows_done IsRow (items_view vs) rows (rw (none_left vs i end) at h))

-- A fault at a row is one of the whole.
same_fault : {A : Type 0} (IsRow : Members → A → Type 0) (vs : List Value) (i : ℕ) (v : Value) (rows : List A) (e : SetupFault)
    → i < length vs → get_or vs i v ≡ v → Finds {X = A} (Err e) (IsTable IsRow (view v))
    → Completes IsRow (items_view vs) (items_view (drop i vs)) rows → Finds {X = List A} (Err e) (AreTables IsRow (items_view vs))
same_fault IsRow vs i v rows Memory below at f h = f
same_fault IsRow vs i v rows (Refused reason) below at f h = row_fails IsRow vs i v rows below at f h

pub row_fails_so : {A : Type 0} (IsRow : Members → A → Type 0) (vs : List Value) (i : ℕ) (v : Value) (rows : List A)
    → i < length vs → get_or vs i v ≡ v → (e : SetupFault) (r : Result (List A) SetupFault) → r ≡ Err e
    → Finds {X = A} (Err e) (IsTable IsRow (view v))
    → Completes IsRow (items_view vs) (items_view (drop i vs)) rows → Finds r (AreTables IsRow (items_view vs))
row_fails_so IsRow vs i v rows below at e r is f h = rw is (same_fault IsRow vs i v rows e below at f h)
