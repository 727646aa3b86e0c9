-- How long one rests who lets time go on, in milliseconds.
use Rattle.std.specs.Prelude.{ℕ, ◌-◌, ◌^◌, max, nat_lt, Bool, false, Option, Some, None}

-- At a moment: until the next tick that has something to do, and for the least time in any case;
-- with no such tick to come, without end.
abbrev pub rest_time : Option ℕ → ℕ → ℕ → Option ℕ
rest_time None moment least = None
rest_time (Some due) moment least = Some (max (due - moment) least)

-- until when, with the latest moment of all for no end
abbrev pub rest_until : Option ℕ → ℕ
rest_until None = 2 ^ 64 - 1
rest_until (Some due) = due

-- whether that tick comes before the rest is over
abbrev pub is_sooner : Option ℕ → ℕ → Bool
is_sooner None until = false
is_sooner (Some due) until = nat_lt due until
