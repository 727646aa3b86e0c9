-- Which entries are marked to be copied, and what their copies count.
use Rattle.std.specs.Prelude.{◌≡◌, ℕ, ◌+◌, Bool, true, false, List, [], ◌∷◌, Option, Some, None, option_map}
use Rattle.ask_model.specs.Sizes.{capped}
use Rattle.journal_book.specs.Entries.{Mark, Ground, Past, Done, done_of, Written, entry_size}
use Rattle.journal_book.specs.declared.entry.Mark.{Mark as RustMark}
use Rattle.journal_book.specs.declared.entry.Mark.TheVariants as M
use Rattle.exchange_model.specs.Rotating.{Seen, seen, mark_of}
use Rattle.journal_copies.specs.declared.marks.Marks.{Marks}

abbrev pub kept_as : Mark → RustMark
kept_as Ground = M.Ground
kept_as Past = M.Past

-- the mark of each entry, where it is copied
abbrev pub mark_if : ℕ → List Seen → List ℕ → ℕ → ℕ → Option Done → Option RustMark
mark_if t xs gs n s None = None
mark_if t xs gs n s (Some done) = option_map kept_as (mark_of t xs gs n s done)

abbrev pub marks_from : ℕ → List Seen → List ℕ → ℕ → List Written → List (Option RustMark)
marks_from t xs gs n [] = []
marks_from t xs gs n (w ∷ ws) =
    mark_if t xs gs n w.moment (done_of w.deed) ∷ marks_from t xs gs (n + 1) ws

abbrev pub marks_with : ℕ → List Written → List ℕ → List (Option RustMark)
marks_with t ws gs = marks_from t (seen ws) gs 0 ws

-- how many are marked
abbrev pub one_of : Option RustMark → ℕ
one_of (Some mark) = 1
one_of None = 0

abbrev pub count_some : List (Option RustMark) → ℕ
count_some [] = 0
count_some (m ∷ ms) = one_of m + count_some ms

-- what their copies count: as much as they do
abbrev pub size_if : Option RustMark → ℕ → ℕ
size_if (Some mark) n = n
size_if None n = 0

abbrev pub weigh : List (Option RustMark) → List Written → ℕ
weigh [] ws = 0
weigh (m ∷ ms) [] = 0
weigh (m ∷ ms) (w ∷ ws) = size_if m (entry_size w) + weigh ms ws

-- a mark, and a count, of one entry more that is remembered or isn't
abbrev pub past_if : Bool → Option RustMark
past_if true = Some M.Past
past_if false = None

abbrev pub more_if : Bool → ℕ → ℕ → ℕ
more_if true n old = capped (old + capped n)
more_if false n old = old

-- These are the marks of what is remembered at a moment and of the entries with these numbers.
pub record AreMarks (t : ℕ) (ws : List Written) (gs : List ℕ) (m : Marks) : Type 0 where
  pub marks : m.marks.items ≡ marks_with t ws gs
  pub count : m.count ≡ capped (count_some m.marks.items)
  pub bytes : m.bytes ≡ capped (weigh m.marks.items ws)
