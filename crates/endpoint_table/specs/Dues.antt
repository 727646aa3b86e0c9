-- The timers of the links, in the order in which they run out.
use Rattle.std.specs.Prelude.{◌≡◌, ◌≤◌, ℕ, ◌+◌, Bool, false, ◌&&◌, ◌||◌, ◌==◌, nat_le, nat_lt, List, [], ◌∷◌, length, map, Option, Some, None, if◌then◌else◌, ⊤}
use Rattle.exchange_model.specs.Due.{has_come, timer}
use Rattle.endpoint_table.specs.declared.dues.Due.{Due}
use Rattle.endpoint_table.specs.declared.endpoint.Endpoint.{Endpoint}
use Rattle.endpoint_table.specs.Tables.{peer_link}

-- It runs out before the other; of two that run out at once, that of the first endpoint does.
abbrev pub is_before : Due → Due → Bool
is_before d e = nat_lt d.due e.due || ((d.due == e.due) && nat_lt d.place e.place)

-- They stand in the order in which they run out.
abbrev pub Ordered : List Due → Type 0
Ordered [] = ⊤
Ordered (d ∷ []) = ⊤
Ordered (d ∷ e ∷ ds) = (is_before e d ≡ false) × Ordered (e ∷ ds)

-- with one more, after those that run out before it
abbrev pub inserted : Due → List Due → List Due
inserted e [] = e ∷ []
inserted e (d ∷ ds) = if is_before d e then d ∷ inserted e ds else e ∷ d ∷ ds

-- without that of the endpoint in this place
abbrev pub removed : ℕ → List Due → List Due
removed i [] = []
removed i (d ∷ ds) = if d.place == i then ds else d ∷ removed i ds

-- with the timer of the endpoint in this place, if one runs
abbrev pub put : ℕ → Option ℕ → List Due → List Due
put i None ds = ds
put i (Some m) ds = inserted (record { due = m; place = i }) ds

-- those of endpoints, of which the first is in this place, by their timers
abbrev pub dues_from : ℕ → List (Option ℕ) → List Due
dues_from i [] = []
dues_from i (t ∷ ts) = put i t (dues_from (i + 1) ts)

abbrev pub timers_of : List Endpoint → List (Option ℕ)
timers_of es = map timer (map peer_link es)

abbrev pub first_due : List Due → Option ℕ
first_due [] = None
first_due (d ∷ ds) = Some d.due

-- the places of the first ones, up to one that has not run out
abbrev pub first_places : ℕ → List Due → List ℕ
first_places t [] = []
first_places t (d ∷ ds) = if nat_le d.due t then d.place ∷ first_places t ds else []

-- the places of the endpoints whose timers have run out, in order
abbrev pub due_places : ℕ → ℕ → List (Option ℕ) → List ℕ
due_places t i [] = []
due_places t i (due ∷ ts) =
    if has_come t due then i ∷ due_places t (i + 1) ts else due_places t (i + 1) ts

-- These are the timers of the endpoints, in a vector of this capacity, where each has a place.
pub record AreDues (es : List Endpoint) (ds : List Due) (capacity : ℕ) : Type 0 where
  pub are : ds ≡ dues_from 0 (timers_of es)
  pub room : length es ≤ capacity
