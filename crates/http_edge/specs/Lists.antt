-- Fields by name, and lists in their values (RFC 9110, sections 5.1 and 5.6.1).
use Rattle.std.specs.Prelude.{ℕ, List, [], ◌∷◌, length, Bool, not, ◌==◌, ◌&&◌, if◌then◌else◌, bytes_eq}
use Rattle.std.specs.List.{list_any, slice_split}
use Rattle.http_header.specs.Token.{lowercase}
use Rattle.httparse.specs.Grammar.{trim_ows}

-- The names are equal, in any case.
unfoldable pub same_name : List ℕ → List ℕ → Bool
same_name a b = bytes_eq (lowercase a) (lowercase b)

-- The values of the fields of that name.
abbrev pub named : List ℕ → List (List ℕ × List ℕ) → List (List ℕ)
named name [] = []
named name (f ∷ fields) = if same_name f.0 name then f.1 ∷ named name fields else named name fields

-- The list, which commas part, has the member, in any case.
unfoldable pub has_member : List ℕ → List ℕ → Bool
has_member bytes member =
    list_any (λ part. same_name (trim_ows part) member) (slice_split (λ b. b == 44) bytes)

-- The list has another member than this; an empty one is none.
abbrev pub is_other : List ℕ → List ℕ → Bool
is_other member part = not (length part == 0) && not (same_name part member)

unfoldable pub has_other : List ℕ → List ℕ → Bool
has_other bytes member =
    list_any (λ part. is_other member (trim_ows part)) (slice_split (λ b. b == 44) bytes)

-- The field has that name and lists the member.
abbrev pub field_lists : List ℕ → List ℕ → List ℕ × List ℕ → Bool
field_lists name member f = same_name f.0 name && has_member f.1 member

-- A field of that name lists the member.
unfoldable pub lists : List ℕ → List ℕ → List (List ℕ × List ℕ) → Bool
lists name member fields = list_any (field_lists name member) fields
