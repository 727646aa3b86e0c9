-- Separators and quoted strings, a byte at a time.
use Rattle.std.proofs.Common.{◌≡◌, ◌∙◌, ap, refl, ℕ, suc, ◌<◌, List, [], ◌∷◌, length, take, drop, get_or, Bool, true, false}
use Rattle.std.specs.Prelude.{◌==◌, ◌&&◌, not, if◌then◌else◌}
use Rattle.std.proofs.lemmas.List.{at_drop_more}
use Rattle.media_map.specs.declared.text.Scan.{Scan}
use Rattle.media_map.specs.declared.text.Scan.TheVariants.{Plain}
use Rattle.media_map.specs.Texts.{cut_from, pieces_from, behind, onto, step_if, is_plain, is_text, closes}

-- The first piece ends at the first separator.
pub split_at_cut : (quotes : Bool) (separator : ℕ) (scan : Scan) (text : List ℕ)
    → pieces_from quotes separator scan text
    ≡ take (cut_from quotes separator scan text) text ∷ behind quotes separator (drop (cut_from quotes separator scan text) text)
split_at_cut quotes separator scan [] = refl
split_at_cut quotes separator scan (b ∷ text) =
    elim (is_plain scan && (b == separator)) as (λ here.
    (if here then [] ∷ pieces_from quotes separator Plain text else onto b (pieces_from quotes separator (step_if quotes scan b) text))
    ≡ take (if here then 0 else suc (cut_from quotes separator (step_if quotes scan b) text)) (b ∷ text)
    ∷ behind quotes separator (drop (if here then 0 else suc (cut_from quotes separator (step_if quotes scan b) text)) (b ∷ text))) [
      | true ↦ refl
      | false ↦ ap (onto b) (split_at_cut quotes separator (step_if quotes scan b) text)
    ]

pub closes_never : (scan : Scan) (text : List ℕ) (i : ℕ) → i < length text → (not (is_plain scan) && is_text (get_or text i 0)) ≡ false
    → closes scan (drop i text) ≡ false
closes_never scan text i lt bad = at_drop_more (closes scan) text i 0 lt ∙ rw bad refl

pub left_false : (a b : Bool) → a ≡ true → (not a && b) ≡ false
left_false true b e = refl
left_false false b e = absurd cc

pub right_false : (a b : Bool) → b ≡ false → (not a && b) ≡ false
right_false true b e = refl
right_false false b e = e
