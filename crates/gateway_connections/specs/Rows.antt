-- The rows of a table: connections, and whether they opened or closed since the mark.
use Rattle.std.specs.Prelude.{◌≡◌, ⊤, ℕ, ◌<◌, Bool, true, false, not, List, [], ◌∷◌}
use Rattle.std.specs.Prelude.{map, filter, All, Some, option_map, slice_get, get_or, length}
use Rattle.std.specs.Prelude.{◌≤◌, ◌+◌, ◌⊎◌, min, max}
use Rattle.gateway_connections.specs.declared.changed.Changed.{Changed}
use Rattle.gateway_connections.specs.declared.row.Row.{Row}
use Rattle.gateway_connections.specs.Inlets.{Inlet, IsSound}

abbrev pub current_in : Row → Inlet
current_in r = r.inbox.current

abbrev pub marked_in : Row → Inlet
marked_in r = r.inbox.marked

abbrev pub number_in : Row → ℕ
number_in r = r.inbox.current.number

-- the connections that are open
abbrev pub current_of : List Row → List Inlet
current_of rows = map current_in (filter (λ (r : Row). not r.closed) rows)

-- those that were at the mark
abbrev pub marked_of : List Row → List Inlet
marked_of rows = map marked_in (filter (λ (r : Row). not r.fresh) rows)

-- the row where it is marked as it is
abbrev pub settled : Row → Row
settled r = record {
  inbox = record { current = r.inbox.current; marked = r.inbox.current };
  fresh = false;
  closed = r.closed;
}

-- the row as it was at the mark
abbrev pub put_back : Row → Row
put_back r = record {
  inbox = record { current = r.inbox.marked; marked = r.inbox.marked };
  fresh = false;
  closed = false;
}

-- The numbers rise.
abbrev pub AreInOrder : List Row → Type 0
AreInOrder [] = ⊤
AreInOrder (r ∷ rows) = All (λ (s : Row). number_in r < number_in s) rows × AreInOrder rows

-- The row at the place has the number.
abbrev pub HasNumber : List Row → ℕ → ℕ → Type 0
HasNumber rows i n = option_map number_in (slice_get rows i) ≡ Some n

-- It is closed, or it isn't.
abbrev pub IsClosed : List Row → ℕ → Bool → Type 0
IsClosed rows i b = option_map (λ (r : Row). r.closed) (slice_get rows i) ≡ Some b

-- Both of its inlets are sound, and have one number. One that opened since the mark isn't closed:
-- it is taken out instead.
pub record IsWhole (r : Row) : Type 0 where
  pub current : IsSound r.inbox.current
  pub marked : IsSound r.inbox.marked
  pub number : r.inbox.marked.number ≡ r.inbox.current.number
  pub stays : r.fresh ≡ true → r.closed ≡ false

-- the places where that one is noted too
abbrev pub noted : ℕ → Changed → Changed
noted i c = record { first = min c.first i; end = max c.end (i + 1); closed = c.closed }

-- Rows at other places than those are as they were marked, and none is closed unless it says so.
pub record IsNoted (c : Changed) (rows : List Row) : Type 0 where
  pub others : (i : ℕ) (d : Row) → i < length rows → (i < c.first) ⊎ (c.end ≤ i)
      → settled (get_or rows i d) ≡ get_or rows i d
  pub opened : c.closed ≡ false → All (λ (r : Row). r.closed ≡ false) rows
