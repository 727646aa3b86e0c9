-- Media types as fields write them (RFC 9110 sections 5.6.6 and 8.3.1).
use Rattle.std.specs.Prelude.{ℕ, ◌+◌, List, [], ◌∷◌, length, take, drop, Bool, true, false, ◌==◌, ◌||◌, ◌&&◌, nat_lt, if◌then◌else◌, Option, Some, None}
use Rattle.std.specs.List.{list_all}
use Rattle.std.specs.Str.{str_eq_ignore_ascii_case}
use Rattle.media_map.specs.declared.text.Scan.{Scan}
use Rattle.media_map.specs.declared.text.Scan.TheVariants.{Plain, Quoted, Escaped}
use Rattle.media_map.specs.Texts.{is_token, is_quoted, trim, pieces, cut_from}

-- Names of types, subtypes, parameters and charsets are compared without case.
abbrev pub same : List ℕ → List ℕ → Bool
same a b = str_eq_ignore_ascii_case a b

-- How many bytes stand before the first '/' or '='.
unfoldable pub slash_in : List ℕ → ℕ
slash_in text = cut_from false 47 Plain text

unfoldable pub equals_in : List ℕ → ℕ
equals_in text = cut_from false 61 Plain text

-- type/subtype, each a token.
unfoldable pub is_essence : List ℕ → Bool
is_essence text = nat_lt (slash_in text) (length text)
    && (is_token (take (slash_in text) text) && is_token (drop (slash_in text + 1) text))

-- name=value, the name a token, the value a token or a quoted string.
unfoldable pub is_pair : List ℕ → Bool
is_pair text = nat_lt (equals_in text) (length text)
    && (is_token (take (equals_in text) text)
    && (is_token (drop (equals_in text + 1) text) || is_quoted (drop (equals_in text + 1) text)))

-- Between semicolons a parameter may be left out.
unfoldable pub is_parameter : List ℕ → Bool
is_parameter piece = (length (trim piece) == 0) || is_pair (trim piece)

-- A media type: its type/subtype, and the pieces after its semicolons.
pub record Named : Type 0 where
  pub essence : List ℕ
  pub parameters : List (List ℕ)

abbrev pub named_in : List (List ℕ) → Option Named
named_in [] = None
named_in (first ∷ others) =
    if is_essence (trim first) && list_all is_parameter others
    then Some (record { essence = trim first; parameters = others }) else None

unfoldable pub media_at : List ℕ → Option Named
media_at text = named_in (pieces true 59 text)

-- The value of the first parameter of the name, as it is written.
unfoldable pub has_name : List ℕ → List ℕ → Bool
has_name name text = nat_lt (equals_in text) (length text) && same (take (equals_in text) text) name

unfoldable pub value_of : List ℕ → List ℕ
value_of text = drop (equals_in text + 1) text

abbrev pub value_in : List ℕ → List (List ℕ) → Option (List ℕ)
value_in name [] = None
value_in name (piece ∷ pieces) =
    if has_name name (trim piece) then Some (value_of (trim piece)) else value_in name pieces

-- What is left of a quoted string, from within it: a quoted pair is the byte that it quotes
-- (section 5.6.4).
abbrev pub quoted_rest : Scan → List ℕ → List ℕ
quoted_rest scan [] = []
quoted_rest Plain (b ∷ text) = []
quoted_rest Quoted (b ∷ text) =
    if b == 34 then []
    else (if b == 92 then quoted_rest Escaped text else b ∷ quoted_rest Quoted text)
quoted_rest Escaped (b ∷ text) = b ∷ quoted_rest Quoted text

-- The bytes that what is left of a value stands for: within a quoted string, or outside of one.
abbrev pub bytes_from : Bool → List ℕ → List ℕ
bytes_from quoted text = if quoted then quoted_rest Quoted text else text

abbrev pub bytes_with : Bool → Option (ℕ × List ℕ) → List ℕ
bytes_with quoted None = []
bytes_with quoted (Some x) = x.0 ∷ bytes_from quoted x.1

-- What a value stands for: a token for itself, a quoted string for what it quotes.
unfoldable pub unquoted : List ℕ → List ℕ
unquoted [] = []
unquoted (b ∷ text) = if b == 34 then quoted_rest Quoted text else b ∷ text
