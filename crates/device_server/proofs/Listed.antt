-- Rows, one after another.
use Rattle.std.proofs.Common.{◌≡◌, zero, suc, ℕ, ◌+◌, ◌<◌, List, [], ◌∷◌, ◌++◌, append_assoc, length, map, take, get_or, refl, sym, ap, subst, ◌∙◌, arith}
use Rattle.demo_origin.specs.declared.resource.Resource.{Resource}
use Rattle.proxy_settings.specs.declared.resource.Resource.{Resource as Row}
use Rattle.demo_origin.specs.Origins.{held_of}
use Rattle.demo_origin.specs.declared.state.Held.{Held}
use Rattle.device_server.specs.Rows.{segments_of, held_by, IsRow, AreRows}

pub rows_more : {H X : Type 0} {F : X → Type 0} {g : _} (rows : List Row)
    (all : List (Resource H X F g)) (i : ℕ) (d : Row) (r : Resource H X F g) → i < length rows
    → AreRows (take i rows) all → IsRow (get_or rows i d) r
    → AreRows (take (suc i) rows) (all ++ r ∷ [])
rows_more [] all i d r lt h k = absurd (omega (arith, lt))
rows_more (x ∷ rows) [] zero d r lt h k = (k, tt)
rows_more (x ∷ rows) (a ∷ all) zero d r lt h k = absurd h
rows_more (x ∷ rows) [] (suc i) d r lt h k = absurd h
rows_more (x ∷ rows) (a ∷ all) (suc i) d r lt h k =
    (h.0, rows_more rows all i d r (omega (arith, lt)) h.1 k)

pub rows_next : {H X : Type 0} {F : X → Type 0} {g : _} (rows : List Row)
    (all ys : List (Resource H X F g)) (i n : ℕ) (d : Row) (r : Resource H X F g) → n ≡ i + 1
    → ys ≡ all ++ r ∷ [] → i < length rows → AreRows (take i rows) all → IsRow (get_or rows i d) r
    → AreRows (take n rows) ys
rows_next {H} {X} {F} {g} rows all ys i n d r e f lt h k =
    let P : List (Resource H X F g) → Type 0 = λ v. AreRows (take n rows) v in
    let Q : ℕ → Type 0 = λ m. AreRows (take m rows) (all ++ r ∷ []) in
    let one : suc i ≡ n = omega (arith, e) in
    subst P (sym f) (subst Q one (rows_more rows all i d r lt h k))

-- the resources of the rows hold at first what the rows say
held_alike : {H X : Type 0} {F : X → Type 0} {g : _} (row : Row) (r : Resource H X F g)
    → IsRow row r → held_of r ≡ held_by row
held_alike row r h = rw (h.path, h.format, h.max_age, h.state) refl

pub all_held : {H X : Type 0} {F : X → Type 0} {g : _} (rows : List Row)
    (all : List (Resource H X F g)) → AreRows rows all → map held_of all ≡ map held_by rows
all_held [] [] h = refl
all_held [] (r ∷ rs) h = absurd h
all_held (row ∷ rows) [] h = absurd h
all_held (row ∷ rows) (r ∷ rs) h =
    ap (λ (x : Held). x ∷ map held_of rs) (held_alike row r h.0)
    ∙ ap (λ (xs : List Held). held_by row ∷ xs) (all_held rows rs h.1)

-- the segments that are taken off go before those of the rest
pub path_goes_on : (all : List (List ℕ)) (segment rest more path : List ℕ)
    → segments_of rest ≡ segment ∷ segments_of more → all ++ segments_of rest ≡ segments_of path
    → (all ++ segment ∷ []) ++ segments_of more ≡ segments_of path
path_goes_on all segment rest more path e h =
    append_assoc all (segment ∷ []) (segments_of more)
    ∙ ap (λ (v : List (List ℕ)). all ++ v) (sym e) ∙ h

pub path_ends : (all : List (List ℕ)) (rest path : List ℕ)
    → segments_of rest ≡ rest ∷ [] → all ++ segments_of rest ≡ segments_of path
    → all ++ rest ∷ [] ≡ segments_of path
path_ends all rest path e h = ap (λ (v : List (List ℕ)). all ++ v) (sym e) ∙ h
