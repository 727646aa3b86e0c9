-- Blanks at the ends of a text.
use Rattle.std.proofs.Common.{◌≡◌, ◌∙◌, sym, ap, refl, ℕ, ◌+◌, ◌-◌, ◌<◌, ◌≤◌, List, [], ◌∷◌, ◌++◌, length, take, get_or, Bool, true, false, arith}
use Rattle.std.specs.Prelude.{◌&&◌}
use Rattle.std.specs.List.{list_all}
use Rattle.std.proofs.lemmas.List.{take_more}
use Rattle.media_map.specs.Texts.{is_blank, trim_end}

all_push : (text : List ℕ) (b : ℕ) → list_all is_blank (text ++ b ∷ []) ≡ (list_all is_blank text && is_blank b)
all_push [] b = elim (is_blank b) as (λ v. (v && true) ≡ v) [ true ↦ refl | false ↦ refl ]
all_push (x ∷ text) b = elim (is_blank x) as (λ v. (v && list_all is_blank (text ++ b ∷ [])) ≡ (v && list_all is_blank text && is_blank b)) [ true ↦ all_push text b | false ↦ refl ]

and_true : (b : Bool) → (b && true) ≡ b
and_true true = refl
and_true false = refl

and_false : (b : Bool) → (b && false) ≡ false
and_false true = refl
and_false false = refl

pub end_blank : (text : List ℕ) (b : ℕ) → is_blank b ≡ true → trim_end (text ++ b ∷ []) ≡ trim_end text
end_blank [] b blank = rw blank refl
end_blank (x ∷ text) b blank = rw (all_push text b, blank, end_blank text b blank) (rw (and_true (list_all is_blank text)) refl)

pub end_solid : (text : List ℕ) (b : ℕ) → is_blank b ≡ false → trim_end (text ++ b ∷ []) ≡ text ++ b ∷ []
end_solid [] b solid = rw solid refl
end_solid (x ∷ text) b solid = rw (all_push text b, solid, end_solid text b solid) (rw (and_false (list_all is_blank text), and_false (is_blank x)) refl)

last_of : (text : List ℕ) (len : ℕ) → 0 < len → len ≤ length text → take len text ≡ take (len - 1) text ++ get_or text (len - 1) 0 ∷ []
last_of text len some le = let e : len ≡ len - 1 + 1 = omega arith in ap (λ n. take n text) e ∙ take_more text (len - 1) 0 (omega arith)

pub shortened : (text : List ℕ) (len : ℕ) → 0 < len → len ≤ length text → is_blank (get_or text (len - 1) 0) ≡ true
    → trim_end (take len text) ≡ trim_end (take (len - 1) text)
shortened text len some le blank = ap trim_end (last_of text len some le) ∙ end_blank (take (len - 1) text) (get_or text (len - 1) 0) blank

pub ended : (text : List ℕ) (len : ℕ) → 0 < len → len ≤ length text → is_blank (get_or text (len - 1) 0) ≡ false → trim_end (take len text) ≡ take len text
ended text len some le solid =
    ap trim_end (last_of text len some le) ∙ (end_solid (take (len - 1) text) (get_or text (len - 1) 0) solid ∙ sym (last_of text len some le))
