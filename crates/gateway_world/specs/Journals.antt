-- The journals of a run: each that was given out, in order, and the last.
use Rattle.std.specs.Prelude.{◌≡◌, ◌⊎◌, ⊤, ℕ, List, [], ◌∷◌, flat_map}
use Rattle.std.specs.List.{AllByRecursion}
use Rattle.media_map.specs.declared.form.Form.{Form}
use Rattle.journal_book.specs.Entries.{Written}
use Rattle.exchange_core.specs.Values.{sent_in}
use Rattle.gateway_model.specs.Closing.{IsNotTo}
use Rattle.gateway_model.specs.Emissions.{Emission, Rotated}
use Rattle.gateway_model.specs.Going.{goes_in}
use Rattle.gateway_model.specs.Told.{IsToldAnswers}

-- a journal, and what was given out while it was added to
pub record Part : Type 0 where
  pub journal : List Written
  pub out : List Emission

abbrev pub gives_first : Emission → List Part → List Part
gives_first e [] = []
gives_first e (p ∷ ps) = record p { out = e ∷ p.out } ∷ ps

-- the parts of what was given out, where this is the last journal
abbrev pub parts_of : List Emission → List Written → List Part
parts_of [] last = record { journal = last; out = [] } ∷ []
parts_of (Rotated h ∷ out) last = record { journal = h; out = [] } ∷ parts_of out last
parts_of (e ∷ out) last = gives_first e (parts_of out last)

-- the entries of all journals, one journal after the other
abbrev pub journal_in : Part → List Written
journal_in p = p.journal

abbrev pub all_entries : List Emission → List Written → List Written
all_entries out last = flat_map journal_in (parts_of out last)

-- So it is of each journal; and of each with what was given out then.
abbrev pub EachJournal : (List Written → Type 0) → List Emission → List Written → Type 0
EachJournal P out last = AllByRecursion (λ (p : Part). P p.journal) (parts_of out last)

abbrev pub EachPart : (List Written → List Emission → Type 0) → List Emission → List Written
    → Type 0
EachPart P out last = AllByRecursion (λ (p : Part). P p.journal p.out) (parts_of out last)

-- Just the datagrams that the journal's own entries send went out, in their order.
abbrev pub AreSent : List Written → List Emission → Type 0
AreSent h out = goes_in out ≡ sent_in h

-- Each connection was told just the answers to it in the journal.
abbrev pub AreTold : (Form → Form → List ℕ → List ℕ → Type 0) → (Form → Form → List ℕ → Type 0)
    → List Written → List Emission → Type 0
AreTold holds takes h out = (c : ℕ) → IsToldAnswers holds takes [] h c out

-- A connection lives while one journal is added to: in one part at most something is said to it, or
-- it is closed.
abbrev pub IsSilent : ℕ → Part → Type 0
IsSilent c p = AllByRecursion (IsNotTo c) p.out

abbrev pub LivesOnce : ℕ → List Part → Type 0
LivesOnce c [] = ⊤
LivesOnce c (p ∷ ps) = (IsSilent c p × LivesOnce c ps) ⊎ AllByRecursion (IsSilent c) ps

abbrev pub AllLiveOnce : List Emission → List Written → Type 0
AllLiveOnce out last = (c : ℕ) → LivesOnce c (parts_of out last)
