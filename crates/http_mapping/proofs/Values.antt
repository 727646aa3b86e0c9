-- Values put one after the other, with commas between.
use Rattle.std.proofs.Common.{◌≡◌, ℕ, Bool, true, false, List, [], ◌∷◌, ◌++◌, map, if◌then◌else◌, sym, ap, ◌∙◌, append_assoc}
use Rattle.std.proofs.lemmas.List.{append-nil}
use Rattle.http_header.specs.FieldValue.{FieldValue}
use Rattle.media_map.specs.Texts.{joined}

-- the values, each after a comma
abbrev pub behind_commas : List (List ℕ) → List ℕ
behind_commas [] = []
behind_commas (v ∷ vs) = (44 ∷ v) ++ behind_commas vs

-- what was put so far, and the values that are left
abbrev pub with_values : Bool → List ℕ → List (List ℕ) → List ℕ
with_values true all vs = all ++ behind_commas vs
with_values false all vs = all ++ joined 44 vs

joined_first : (v : List ℕ) (vs : List (List ℕ)) → joined 44 (v ∷ vs) ≡ v ++ behind_commas vs
joined_first v [] = sym (append-nil v)
joined_first v (next ∷ vs) = ap (λ (text : List ℕ). v ++ (44 ∷ text)) (joined_first next vs)

put : (begun : Bool) (all v : List ℕ) (vs : List (List ℕ)) → with_values begun all (v ∷ vs) ≡ with_values true (all ++ (if begun then 44 ∷ v else v)) vs
put true all v vs = sym (append_assoc all (44 ∷ v) (behind_commas vs))
put false all v vs = ap (λ (text : List ℕ). all ++ text) (joined_first v vs) ∙ sym (append_assoc all v (behind_commas vs))

pub one_put : (begun : Bool) (all new : List ℕ) (values rest : List FieldValue) (v : FieldValue) (text total : List ℕ) → values ≡ v ∷ rest
    → text ≡ v.bytes → new ≡ all ++ (if begun then 44 ∷ text else text) → with_values begun all (map (λ v. v.bytes) values) ≡ total
    → with_values true new (map (λ v. v.bytes) rest) ≡ total
one_put begun all new values rest v text total e same put_is so_far =
    let step = put begun all v.bytes (map (λ v. v.bytes) rest) in
    let now : with_values begun all (map (λ v. v.bytes) (v ∷ rest)) ≡ total = rw e at so_far in
    rw (put_is, same) (sym step ∙ now)
