-- What the history says of a connection.
use Rattle.std.specs.Prelude.{ℕ, ◌+◌, Bool, true, false, not, ◌&&◌, ◌||◌, List, [], ◌∷◌, ◌++◌, length, ◌==◌, if◌then◌else◌}
use Rattle.journal_book.specs.Entries.{Deed, Opens, Asks, Answers, Shuts, Seals}
use Rattle.history_laws.specs.Readings.{Noted}

-- it was opened, and not shut
abbrev pub open_by : ℕ → Deed → Bool → Bool
open_by c (Opens d) old = (d == c) || old
open_by c (Shuts d) old = not (d == c) && old
open_by c _ old = old

abbrev pub is_open : List Noted → ℕ → Bool
is_open [] c = false
is_open (x ∷ older) c = open_by c x.written.deed (is_open older c)

-- its asks, in order
abbrev pub asks_by : ℕ → ℕ → Deed → List ℕ → List ℕ
asks_by c n (Asks d a) old = if d == c then old ++ n ∷ [] else old
asks_by c n _ old = old

abbrev pub asks_of : List Noted → ℕ → List ℕ
asks_of [] c = []
asks_of (x ∷ older) c = asks_by c (length older) x.written.deed (asks_of older c)

-- its asks that were answered, in the order of their answers
abbrev pub answers_by : ℕ → Deed → List ℕ → List ℕ
answers_by c (Answers d k g) old = if d == c then old ++ k ∷ [] else old
answers_by c _ old = old

abbrev pub answers_of : List Noted → ℕ → List ℕ
answers_of [] c = []
answers_of (x ∷ older) c = answers_by c x.written.deed (answers_of older c)

-- the journal was sealed
abbrev pub sealed_by : Deed → Bool → Bool
sealed_by Seals old = true
sealed_by _ old = old

abbrev pub is_sealed : List Noted → Bool
is_sealed [] = false
is_sealed (x ∷ older) = sealed_by x.written.deed (is_sealed older)

-- the number of the next one
abbrev pub opened_by : Deed → ℕ → ℕ
opened_by (Opens c) old = c + 1
opened_by _ old = old

abbrev pub opened : List Noted → ℕ
opened [] = 0
opened (x ∷ older) = opened_by x.written.deed (opened older)

-- one was opened in this history
abbrev pub opens_by : Deed → Bool → Bool
opens_by (Opens c) old = true
opens_by _ old = old

abbrev pub has_opened : List Noted → Bool
has_opened [] = false
has_opened (x ∷ older) = opens_by x.written.deed (has_opened older)
