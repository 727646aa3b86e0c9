-- A name that is read byte by byte.
use Rattle.std.proofs.Common.{◌≡◌, ℕ, ◌≤◌, ◌+◌, false, true, List, [], ◌++◌, length, refl, sym, ap, ◌∙◌, append-nil, arith}
use Rattle.std.specs.Str.{str_to_ascii_lowercase, is_utf8}
use Rattle.std.proofs.lemmas.Bool.{le-leb}
use Rattle.uri_map.specs.Authority.{is_name}

pub all_read : (name rest total : List ℕ) → rest ≡ [] → name ++ str_to_ascii_lowercase rest ≡ total → name ≡ total
all_read name rest total none read = sym (append-nil name) ∙ (rw none at read)

pub no_bytes : (name total : List ℕ) → name ≡ total → length name ≡ 0 → is_name total ≡ false
no_bytes name total same none = let size : length total ≡ 0 = sym (ap length same) ∙ none in grind (arith, size)

pub no_utf8 : (name total : List ℕ) → name ≡ total → is_utf8 name ≡ false → is_name total ≡ false
no_utf8 name total same none = let bad : is_utf8 total ≡ false = sym (ap is_utf8 same) ∙ none in grind (arith, bad)

pub is_found : (name total : List ℕ) → name ≡ total → 1 ≤ length name → length name ≤ 255 → is_utf8 name ≡ true → is_name total ≡ true
is_found name total same some short utf8 = rw (← same, le-leb 1 (length name) some, le-leb (length name) 255 short, utf8) refl
