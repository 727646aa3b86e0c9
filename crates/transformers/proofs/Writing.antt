-- What is written for one more item.
use Rattle.std.proofs.Common.{◌≡◌, ℕ, suc, length, List, [], ◌∷◌, ◌++◌, refl, sym, ap, ◌∙◌, append_assoc, append-nil}
use Rattle.serde_json.specs.Data.{Data}
use Rattle.serde_json.specs.Events.{items_len}
use Rattle.serde_json.specs.View.{items_of}
use Rattle.transformers.specs.Shortest.{shortest, items_bytes}

pub items_count : (ds : List Data) → items_len (items_of ds) ≡ length ds
items_count [] = refl
items_count (d ∷ ds) = ap suc (items_count ds)

pub items_more : (ds : List Data) (d : Data) → items_bytes (items_of (ds ++ d ∷ [])) ≡ items_bytes (items_of ds) ++ shortest d
items_more [] d = append-nil (shortest d)
items_more (e ∷ ds) d = ap (λ (t : List ℕ). shortest e ++ t) (items_more ds d) ∙ sym (append_assoc (shortest e) (items_bytes (items_of ds)) (shortest d))
