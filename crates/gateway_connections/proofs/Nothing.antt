-- Where there are no bytes, nobody expects to be told to go on, and none are left.
use Rattle.std.proofs.Common.{◌≡◌, inl, ◌<◌, List, [], ◌∷◌, ◌++◌, ℕ, length, refl, ap, ◌∙◌, arith, length-append}
use Rattle.http_edge.specs.Edges.{Expects, LeavesBytes}
use Rattle.http_edge.proofs.Heading.{head_is_some}

pub no-bytes : (text : List ℕ) → length text ≡ 0 → text ≡ []
no-bytes [] none = refl
no-bytes (b ∷ text) some = absurd (omega (arith, some))

some-text : (a b : List ℕ) → [] ≡ a ++ b → 0 < length a → ⊥
some-text a b e lt = let whole = ap length e ∙ length-append a b in omega (arith, whole, lt)

pub expects-nothing : Expects [] → ⊥
expects-nothing x = some-text _ x.behind x.begins.reads.1 (head_is_some x.head)

pub leaves-nothing : LeavesBytes [] 0
leaves-nothing = ([], inl ((λ h rest x. some-text _ rest x.1 (head_is_some h)), refl), refl)
