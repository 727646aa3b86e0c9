-- When the first of the watches is idle.
use Rattle.std.specs.Prelude.{◌≡◌, ℕ, ◌^◌, ◌<◌, List, Option, Some, None, true, false}
use Rattle.std.specs.List.{list_any}
use Rattle.observe_share.specs.declared.registration.Registration.{Registration}
use Rattle.observe_share.specs.Watches.{is_idle}

-- One of them is idle at this moment, and none before; or none is at any moment of 64 bits.
abbrev pub IsNextDue : List Registration → Option ℕ → Type 0
IsNextDue ws None = (t : ℕ) → t < 2 ^ 64 → list_any (is_idle t) ws ≡ false
IsNextDue ws (Some due) =
    (list_any (is_idle due) ws ≡ true) × ((t : ℕ) → t < due → list_any (is_idle t) ws ≡ false)
