-- What is looked at as notes and entries are read one after the other.
use Rattle.std.specs.Prelude.{ℕ, ◌+◌, max, nat_le, Bool, true, false, Option, Some, None, if◌then◌else◌}
use Rattle.journal_book.specs.Entries.{Deed, Asks, Written}
use Rattle.gateway_desk.specs.Lines.{Line, made, got, told}

-- from which number on asks come after a note, if they may, as before it they come from this one on
abbrev pub next_from : Line → ℕ → Option ℕ
next_from (made k) n = if nat_le n k then Some n else None
next_from (got s) n = Some (max n (s.given.number + 1))
next_from (told s) n = Some (max n (s.given.number + 1))

-- the deed asks
abbrev pub asks : Deed → Bool
asks (Asks c a) = true
asks _ = false

-- so does the entry
abbrev pub is_ask : Written → Bool
is_ask w = asks w.deed
