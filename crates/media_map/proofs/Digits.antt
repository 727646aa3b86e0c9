-- Digits, one after the other.
use Rattle.std.proofs.Common.{ℕ, ◌+◌, List, length, Option, None}
use Rattle.std.specs.Prelude.{◌&&◌, nat_lt, nat_le, if◌then◌else◌}
use Rattle.media_map.specs.Formats.{number_from}

-- what the number is after so many digits, with these still to read
abbrev pub more_digits : ℕ → ℕ → List ℕ → Option ℕ
more_digits count number ds =
    if nat_lt 0 (count + length ds) && nat_le (count + length ds) 5 then number_from number ds else None
