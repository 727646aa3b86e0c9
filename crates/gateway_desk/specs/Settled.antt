-- When one journal justifies what sessions noted.
use Rattle.std.specs.Prelude.{◌≡◌, ◌≢◌, ⊤, ℕ, ◌+◌, ◌<◌, ◌≤◌, List, [], ◌∷◌, Option, Some, None, slice_get}
use Rattle.std.specs.List.{All, AllPairs, Contains, flat_map}
use Rattle.journal_book.specs.Entries.{Deed, Asks, Answers, Written}
use Rattle.exchange_core.specs.Answering.{Given, IsFound, CountsFrom}
use Rattle.gateway_desk.specs.Held.{Held}
use Rattle.gateway_desk.specs.Lines.{Line, Slip, made, got, told}

-- The deed asks on the connection.
abbrev pub IsAskOn : ℕ → Deed → Type 0
IsAskOn c (Asks d a) = d ≡ c
IsAskOn c _ = ⊥

-- So does the entry.
abbrev pub AsksAt : ℕ → Option Written → Type 0
AsksAt c None = ⊥
AsksAt c (Some w) = IsAskOn c w.deed

-- The first deed answers the second, as the receipt says: both on its connection, at its moment and
-- on its grounds, and what was asked means the same.
abbrev pub AnswersAs : Slip → ℕ → Deed → Deed → Type 0
AnswersAs s t (Answers c k g) (Asks d a) =
    (k ≡ s.number) × (c ≡ s.given.conn) × (d ≡ c) × (t ≡ s.given.moment)
    × (g ≡ s.given.found.grounds) × (a.sense ≡ s.given.mapping.sense)
AnswersAs s t _ _ = ⊥

abbrev pub AreOf : Slip → Option Written → Option Written → Type 0
AreOf s (Some answer) (Some ask) = AnswersAs s answer.moment answer.deed ask.deed
AreOf s _ _ = ⊥

-- The history shows what an ask came to: its grounds say that, from the moment on that it counts
-- from.
abbrev pub IsShown : List Written → Given → Type 0
IsShown h g =
    IsFound h g.found.told g.found.grounds g.mapping.sense
    × CountsFrom h g.found.grounds g.moment g.heard

-- The history has the receipt: its answer at that one's number, for the ask that has the receipt's,
-- and it shows what that came to.
abbrev pub HasReceipt : List Written → Slip → Type 0
HasReceipt h s =
    (s.given.ask ≡ s.number) × AreOf s (slice_get h s.given.number) (slice_get h s.number)
    × IsShown h s.given

-- The history has what is noted on a connection: its own asks, the answers to these, and others'
-- answers.
abbrev pub HasLine : List Written → ℕ → Line → Type 0
HasLine h c (made n) = AsksAt c (slice_get h n)
HasLine h c (got s) = AsksAt c (slice_get h s.number) × HasReceipt h s
HasLine h c (told s) = HasReceipt h s

-- The asks among the notes have numbers from this one on.
abbrev pub AskFrom : ℕ → List Line → Type 0
AskFrom n [] = ⊤
AskFrom n (made k ∷ ls) = (n ≤ k) × AskFrom n ls
AskFrom n (got s ∷ ls) = AskFrom n ls
AskFrom n (told s ∷ ls) = AskFrom n ls

-- Each ask comes after the answers that stand before it, received or told.
abbrev pub AreInOrder : List Line → Type 0
AreInOrder [] = ⊤
AreInOrder (made k ∷ ls) = AreInOrder ls
AreInOrder (got s ∷ ls) = AskFrom (s.given.number + 1) ls × AreInOrder ls
AreInOrder (told s ∷ ls) = AskFrom (s.given.number + 1) ls × AreInOrder ls

-- The history justifies what a session noted.
pub record IsJustified (h : List Written) (p : Held) : Type 0 where
  pub has : All (HasLine h p.conn) p.lines
  pub order : AreInOrder p.lines

-- the ask that a note is of
abbrev pub number_of : Line → ℕ
number_of (made n) = n
number_of (got s) = s.number
number_of (told s) = s.number

-- The history lacks one of the notes, which is of the ask with this number.
abbrev pub Lacks : List Written → ℕ → List Line → ℕ → Type 0
Lacks h c ls n = (l : Line) × Contains ls l × (number_of l ≡ n) × (HasLine h c l → ⊥)

-- The notes, one of which is of that ask, aren't in order.
abbrev pub AreOutOfOrder : List Line → ℕ → Type 0
AreOutOfOrder ls n = (l : Line) × Contains ls l × (number_of l ≡ n) × (AreInOrder ls → ⊥)

-- The history doesn't justify what the session noted, one note of which is of that ask.
abbrev pub IsUnjustified : List Written → Held → ℕ → Type 0
IsUnjustified h p n =
    (l : Line) × Contains p.lines l × (number_of l ≡ n) × (IsJustified h p → ⊥)

-- The history doesn't justify what one of the sessions noted, which has a note of the ask with this
-- number.
pub record IsStranger (h : List Written) (ps : List Held) (n : ℕ) : Type 0 where
  pub pass : Held
  pub note : Line
  pub is_pass : Contains ps pass
  pub is_note : Contains pass.lines note
  pub number : number_of note ≡ n
  pub unjustified : IsJustified h pass → ⊥

-- the asks whose answers were given
abbrev pub answered_by : Line → List ℕ
answered_by (got s) = s.number ∷ []
answered_by _ = []

abbrev pub answered_in : List Line → List ℕ
answered_in ls = flat_map answered_by ls

abbrev pub answered : List Held → List ℕ
answered ps = flat_map (λ (p : Held). answered_in p.lines) ps

-- No ask is there twice.
abbrev pub AreApart : List ℕ → Type 0
AreApart ns = AllPairs (λ n k. n ≢ k) ns

-- This one is.
pub record IsRepeated (ns : List ℕ) (n : ℕ) : Type 0 where
  pub first : ℕ
  pub later : ℕ
  pub apart : first < later
  pub first_is : slice_get ns first ≡ Some n
  pub later_is : slice_get ns later ≡ Some n
