-- The lines of figures, in the text form that Prometheus reads (version 0.0.4).
use Rattle.std.specs.Prelude.{ℕ, ◌==◌, List, [], ◌∷◌, ◌++◌, codes, decimal, flat_map, if◌then◌else◌}

-- NAME VALUE
abbrev pub figure_line : List ℕ → ℕ → List ℕ
figure_line name value = name ++ codes " " ++ decimal value ++ 10 ∷ []

-- In the value of a label a backslash, a quote and the end of a line are escaped.
abbrev pub label_escape : ℕ → List ℕ
label_escape c =
    if c == 92 then 92 ∷ 92 ∷ [] else (
    if c == 34 then 92 ∷ 34 ∷ [] else (
    if c == 10 then 92 ∷ 110 ∷ [] else c ∷ []))

abbrev pub label_text : List ℕ → List ℕ
label_text text = flat_map label_escape text

-- NAME{LABEL="TEXT"} VALUE
abbrev pub labelled_line : List ℕ → List ℕ → List ℕ → ℕ → List ℕ
labelled_line name label text value =
    name ++ 123 ∷ [] ++ label ++ 61 ∷ 34 ∷ [] ++ label_text text ++ 34 ∷ 125 ∷ 32 ∷ []
    ++ decimal value ++ 10 ∷ []
