-- Pieces join to the text that they were cut from.
use Rattle.std.proofs.Common.{◌≡◌, ◌∙◌, refl, ℕ, List, [], ◌∷◌, Bool, true, false}
use Rattle.std.specs.Prelude.{◌&&◌, ◌==◌, if◌then◌else◌}
use Rattle.std.proofs.lemmas.Bool.{eqb-true, and_parts}
use Rattle.media_map.proofs.Scanning.{split_at_cut}
use Rattle.media_map.specs.declared.text.Scan.{Scan}
use Rattle.media_map.specs.declared.text.Scan.TheVariants.{Plain}
use Rattle.media_map.specs.Texts.{pieces_from, joined, onto, is_plain, step_if}

-- Pieces are never none.
front_byte : (b separator : ℕ) (ps : List (List ℕ)) (piece : List ℕ) (others : List (List ℕ)) → ps ≡ piece ∷ others → joined separator (onto b ps) ≡ b ∷ joined separator ps
front_byte b separator ps piece [] e = rw e refl
front_byte b separator ps piece (next ∷ others) e = rw e refl

front_separator : (separator : ℕ) (ps : List (List ℕ)) (piece : List ℕ) (others : List (List ℕ)) → ps ≡ piece ∷ others → joined separator ([] ∷ ps) ≡ separator ∷ joined separator ps
front_separator separator ps piece others e = rw e refl

go_on : (here : Bool) (quotes : Bool) (separator : ℕ) (scan : Scan) (b : ℕ) (text : List ℕ) → (is_plain scan && (b == separator)) ≡ here
    → ((next : Scan) → joined separator (pieces_from quotes separator next text) ≡ text)
    → joined separator (if here then [] ∷ pieces_from quotes separator Plain text else onto b (pieces_from quotes separator (step_if quotes scan b) text)) ≡ b ∷ text
go_on true quotes separator scan b text e others =
    front_separator separator _ _ _ (split_at_cut quotes separator Plain text) ∙ rw (others Plain, eqb-true b separator (and_parts (is_plain scan) (b == separator) e).1) refl
go_on false quotes separator scan b text e others =
    front_byte b separator _ _ _ (split_at_cut quotes separator (step_if quotes scan b) text) ∙ rw (others (step_if quotes scan b)) refl

pub joins : (quotes : Bool) (separator : ℕ) (scan : Scan) (text : List ℕ) → joined separator (pieces_from quotes separator scan text) ≡ text
joins quotes separator scan [] = refl
joins quotes separator scan (b ∷ text) =
    go_on (is_plain scan && (b == separator)) quotes separator scan b text refl (λ next. joins quotes separator next text)
