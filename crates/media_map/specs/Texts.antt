-- The parts of header fields (RFC 9110 section 5.6).
use Rattle.std.specs.Prelude.{ℕ, suc, List, [], ◌∷◌, ◌++◌, length, Bool, true, false, ◌==◌, ◌||◌, ◌&&◌, not, nat_lt, nat_le, if◌then◌else◌, codes}
use Rattle.std.specs.List.{list_all, list_any}
use Rattle.std.specs.Char.{is_ascii_alphanumeric}
use Rattle.media_map.specs.declared.text.Scan.{Scan}
use Rattle.media_map.specs.declared.text.Scan.TheVariants.{Plain, Quoted, Escaped}

-- A character of a token (section 5.6.2).
unfoldable pub is_tchar : ℕ → Bool
is_tchar b = is_ascii_alphanumeric b || list_any (λ c. b == c) (codes "!#$%&'*+-.^_`|~")

abbrev pub is_token : List ℕ → Bool
is_token text = nat_lt 0 (length text) && list_all is_tchar text

-- Optional whitespace: spaces and tabs (section 5.6.3).
unfoldable pub is_blank : ℕ → Bool
is_blank b = (b == 32) || (b == 9)

abbrev pub trim_start : List ℕ → List ℕ
trim_start [] = []
trim_start (b ∷ text) = if is_blank b then trim_start text else b ∷ text

abbrev pub trim_end : List ℕ → List ℕ
trim_end [] = []
trim_end (b ∷ text) = if is_blank b && list_all is_blank text then [] else b ∷ trim_end text

unfoldable pub trim : List ℕ → List ℕ
trim text = trim_end (trim_start text)

-- Quoted strings (section 5.6.4) begin and end with a double quote; a backslash takes the next byte
-- as it is.
abbrev pub step : Scan → ℕ → Scan
step Plain b = if b == 34 then Quoted else Plain
step Quoted b = if b == 34 then Plain else (if b == 92 then Escaped else Quoted)
step Escaped b = Quoted

abbrev pub is_plain : Scan → Bool
is_plain Plain = true
is_plain Quoted = false
is_plain Escaped = false

-- Where quoted strings don't count, each byte is plain.
abbrev pub step_if : Bool → Scan → ℕ → Scan
step_if quotes scan b = if quotes then step scan b else scan

-- The pieces between separators. With quotes, a separator inside a quoted string is none.
abbrev pub onto : ℕ → List (List ℕ) → List (List ℕ)
onto b [] = []
onto b (piece ∷ pieces) = (b ∷ piece) ∷ pieces

abbrev pub pieces_from : Bool → ℕ → Scan → List ℕ → List (List ℕ)
pieces_from quotes separator scan [] = [] ∷ []
pieces_from quotes separator scan (b ∷ text) =
    if is_plain scan && (b == separator) then [] ∷ pieces_from quotes separator Plain text
    else onto b (pieces_from quotes separator (step_if quotes scan b) text)

abbrev pub pieces : Bool → ℕ → List ℕ → List (List ℕ)
pieces quotes separator text = pieces_from quotes separator Plain text

-- Pieces with separators between them again.
abbrev pub joined : ℕ → List (List ℕ) → List ℕ
joined separator [] = []
joined separator (piece ∷ []) = piece
joined separator (piece ∷ next ∷ pieces) = piece ++ separator ∷ joined separator (next ∷ pieces)

-- How many bytes stand before the first separator.
abbrev pub cut_from : Bool → ℕ → Scan → List ℕ → ℕ
cut_from quotes separator scan [] = 0
cut_from quotes separator scan (b ∷ text) =
    if is_plain scan && (b == separator) then 0
    else suc (cut_from quotes separator (step_if quotes scan b) text)

-- The pieces of what stands after a piece: nothing, or a separator and more.
abbrev pub behind : Bool → ℕ → List ℕ → List (List ℕ)
behind quotes separator [] = []
behind quotes separator (b ∷ text) = pieces quotes separator text

-- A byte of text: no control character but the tab (section 5.5).
unfoldable pub is_text : ℕ → Bool
is_text b = (b == 9) || (nat_le 32 b && not (b == 127))

-- The end of a quoted string, and nothing after it.
abbrev pub closes : Scan → List ℕ → Bool
closes scan [] = is_plain scan
closes scan (b ∷ text) = not (is_plain scan) && is_text b && closes (step scan b) text

abbrev pub is_quoted : List ℕ → Bool
is_quoted [] = false
is_quoted (b ∷ text) = (b == 34) && closes Quoted text
