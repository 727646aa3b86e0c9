-- Which of two notifications is the newer (RFC 7641 section 3.4).
use Rattle.std.specs.Prelude.{ℕ, ◌+◌, ◌-◌, ◌^◌, ◌<◌, ◌⊎◌, Bool, ◌&&◌, ◌||◌, nat_lt}

-- The second is fresher than the first: by less than half of the numbers that there are, counted
-- round, or since it came more than 128 s after it.
abbrev pub IsNewer : ℕ → ℕ → ℕ → ℕ → Type 0
IsNewer v1 t1 v2 t2 =
    ((v1 < v2) × (v2 - v1 < 2 ^ 23)) ⊎ (((v2 < v1) × (2 ^ 23 < v1 - v2)) ⊎ (t1 + 128000 < t2))

-- the same, as a test
abbrev pub newer : ℕ → ℕ → ℕ → ℕ → Bool
newer v1 t1 v2 t2 =
    (nat_lt v1 v2 && nat_lt (v2 - v1) (2 ^ 23))
    || ((nat_lt v2 v1 && nat_lt (2 ^ 23) (v1 - v2)) || nat_lt (t1 + 128000) t2)
