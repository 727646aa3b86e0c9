-- How text stands on a page of HTML.
use Rattle.std.specs.Prelude.{ℕ, ◌==◌, ◌||◌, List, [], ◌∷◌, codes, flat_map, nat_lt, if◌then◌else◌}

-- References for `&`, `<`, `>`, quotes and apostrophes, and U+FFFD for what has no sign.
abbrev pub escape : ℕ → List ℕ
escape c =
    if c == 38 then codes "&amp;" else (
    if c == 60 then codes "&lt;" else (
    if c == 62 then codes "&gt;" else (
    if c == 34 then codes "&quot;" else (
    if c == 39 then codes "&#39;" else (
    if nat_lt c 32 || c == 127 then codes "&#65533;" else c ∷ [])))))

abbrev pub escaped : List ℕ → List ℕ
escaped text = flat_map escape text
