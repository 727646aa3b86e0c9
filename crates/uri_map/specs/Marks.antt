-- The bytes at which parts of a target end.
use Rattle.std.specs.Prelude.{ℕ, Bool, not, ◌||◌, ◌==◌}
use Rattle.std.specs.Char.{is_ascii_hexdigit, is_ascii_alphanumeric}
use Rattle.uri_map.specs.declared.marks.Mark.{Mark}

-- `/` or `?`
abbrev pub ends_authority : ℕ → Bool
ends_authority b = b == 47 || b == 63

-- No hexadecimal digit and no colon: an address in brackets has no dots and no zone.
abbrev pub ends_address : ℕ → Bool
ends_address b = not (is_ascii_hexdigit b || b == 58)

-- no byte of a scheme (RFC 3986, section 3.1)
abbrev pub ends_scheme : ℕ → Bool
ends_scheme b = not (is_ascii_alphanumeric b || b == 43 || b == 45 || b == 46)

abbrev pub ends : Mark → ℕ → Bool
ends (Mark.Byte end) b = b == end
ends Mark.Authority b = ends_authority b
ends Mark.Address b = ends_address b
ends Mark.Scheme b = ends_scheme b
