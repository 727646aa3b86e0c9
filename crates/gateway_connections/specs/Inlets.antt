-- The open connections, and the bytes of each that aren't asked yet.
use Rattle.std.specs.Prelude.{◌≡◌, ⊤, ℕ, ◌+◌, ◌<◌, ◌==◌, ◌&&◌, Bool, true, false, not, nat_lt}
use Rattle.std.specs.Prelude.{if◌then◌else◌, length, List, [], ◌∷◌, ◌++◌, map, filter, All}
use Rattle.std.specs.Prelude.{Option, Some, None}
use Rattle.limits.specs.declared.TheConstants.{MAX_UNREAD}
use Rattle.http_edge.specs.Reading.{Item, closes}
use Rattle.http_edge.specs.Edges.{Expects, IsUnread}

-- An open connection: its number; the bytes that aren't asked yet; whether its client was told to
-- go on with the request that is next; whether the last request was read, after which there are no
-- bytes; and how many bytes count as unread.
pub record Inlet : Type 0 where
  pub number : ℕ
  pub text : List ℕ
  pub told : Bool
  pub closing : Bool
  pub unread : ℕ

-- the connections as they are, and as they were at the mark; and for how many more there are places
pub record TableValue : Type 0 where
  pub current : List Inlet
  pub marked : List Inlet
  pub room : ℕ

-- the first of that number
abbrev pub inlet_at : ℕ → List Inlet → Option Inlet
inlet_at n [] = None
inlet_at n (x ∷ xs) = if x.number == n then Some x else inlet_at n xs

-- one that opens: no bytes came yet
abbrev pub fresh : ℕ → Inlet
fresh n = record { number = n; text = []; told = false; closing = false; unread = 0 }

abbrev pub without : ℕ → List Inlet → List Inlet
without n xs = filter (λ (x : Inlet). not (x.number == n)) xs

-- the others stay
abbrev pub changed_at : ℕ → (Inlet → Inlet) → List Inlet → List Inlet
changed_at n change xs = map (λ (x : Inlet). if x.number == n then change x else x) xs

-- the one of its number replaced by it
abbrev pub with_inlet : Inlet → List Inlet → List Inlet
with_inlet y xs = changed_at y.number (λ (x : Inlet). y) xs

-- The bytes come after those that wait; after the last request none are kept.
abbrev pub extended : List ℕ → Inlet → Inlet
extended bytes x =
    if x.closing then x
    else record x { text = x.text ++ bytes; unread = x.unread + length bytes }

abbrev pub appended : ℕ → List ℕ → List Inlet → List Inlet
appended n bytes xs = changed_at n (extended bytes) xs

-- what is left after an item: after the last, no bytes
abbrev pub left_by : Item → List ℕ → List ℕ
left_by i rest = if closes i then [] else rest

-- how many bytes wait unread: what its text leaves, where that is read as it comes in; or all
abbrev pub unread_in : Bool → Inlet → ℕ
unread_in reads x = if reads then x.unread else length x.text

-- So many bytes more would be more than 1,048,576 unread in all. After the last request none count.
abbrev pub is_full : Bool → ℕ → Inlet → Bool
is_full reads more x = not x.closing && nat_lt MAX_UNREAD (unread_in reads x + more)

abbrev pub is_full_in : Bool → ℕ → Option Inlet → Bool
is_full_in reads more None = false
is_full_in reads more (Some x) = is_full reads more x

abbrev pub is_full_at : ℕ → Bool → ℕ → List Inlet → Bool
is_full_at n reads more xs = is_full_in reads more (inlet_at n xs)

-- The numbers rise.
abbrev pub AreRising : List Inlet → Type 0
AreRising [] = ⊤
AreRising (x ∷ xs) = All (λ (y : Inlet). x.number < y.number) xs × AreRising xs

-- Who was told to go on was told for the head in front; after the last request there are no bytes;
-- and all bytes count as unread, or where a request is begun none of its head.
pub record IsSound (x : Inlet) : Type 0 where
  pub told : x.told ≡ true → Expects x.text
  pub ended : x.closing ≡ true → x.text ≡ []
  pub unread : IsUnread x.text x.unread

-- what holds of the connections of a table
pub record AreKept (xs : List Inlet) : Type 0 where
  pub numbers : AreRising xs
  pub sound : All IsSound xs

-- The number is above all that there are.
pub record IsAbove (n : ℕ) (t : TableValue) : Type 0 where
  pub current : All (λ (x : Inlet). x.number < n) t.current
  pub marked : All (λ (x : Inlet). x.number < n) t.marked
