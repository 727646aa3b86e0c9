-- What is told of what was given out, for who notes it.
use Rattle.std.specs.Prelude.{◌≡◌, ◌⊎◌, ◌==◌, if◌then◌else◌, ℕ, suc, Bool, true, false, List, [], ◌∷◌, ◌++◌}
use Rattle.std.specs.Prelude.{flat_map, length, map, take}
use Rattle.gateway_model.specs.Emissions.{Emission, Says}
use Rattle.gateway_loop.specs.declared.told.State.{State}
use Rattle.gateway_loop.specs.declared.told.State.TheVariants as At
use Rattle.gateway_loop.specs.declared.told.Told.{Told}

-- How many bytes there are up to the end of the first empty line, or in all (RFC 9112, section 2.1).
-- `empty`: the line before them ended, and there is nothing but CR on theirs so far (section 2.2).
abbrev pub head_len : Bool → List ℕ → ℕ
head_len empty [] = 0
head_len empty (b ∷ bs) =
    if b == 10 then (if empty then 1 else suc (head_len true bs))
    else (if b == 13 then suc (head_len empty bs) else suc (head_len false bs))

-- the connection that bytes were for, their head, and how many there were
pub record Telling : Type 0 where
  pub number : ℕ
  pub head : List ℕ
  pub count : ℕ

abbrev pub telling : Told → Telling
telling t = record { number = t.number; head = t.head.items; count = t.count }

abbrev pub telling_of : ℕ → List ℕ → Telling
telling_of c bytes =
    record { number = c; head = take (head_len false bytes) bytes; count = length bytes }

-- what is told of what was given out
abbrev pub tellings_by : Emission → List Telling
tellings_by (Says c bytes) = telling_of c bytes ∷ []
tellings_by _ = []

abbrev pub tellings : List Emission → List Telling
tellings out = flat_map tellings_by out

pub data NotesValue : Type 0 where
  -- Nothing is to be told.
  Off : NotesValue
  -- Memory was refused for it: nothing is told until it is forgotten.
  Lost : NotesValue
  -- These are told.
  Kept : List Telling → NotesValue

abbrev pub notes_of : State → NotesValue
notes_of At.Off = Off
notes_of At.Lost = Lost
notes_of (At.Kept all) = Kept (map telling all.items)

abbrev pub told_in : NotesValue → List Telling
told_in Off = []
told_in Lost = []
told_in (Kept ts) = ts

abbrev pub forgotten : NotesValue → NotesValue
forgotten Off = Off
forgotten Lost = Kept []
forgotten (Kept ts) = Kept []

-- What is told goes on with what is given out, where anything is told and no memory is refused.
abbrev pub Tells : List Emission → NotesValue → NotesValue → Type 0
Tells out Off new = new ≡ Off
Tells out Lost new = new ≡ Lost
Tells out (Kept ts) new = (new ≡ Lost) ⊎ (new ≡ Kept (ts ++ tellings out))

-- What is told is the last of what was given out, each once and in order.
abbrev pub AreLast : List Emission → NotesValue → Type 0
AreLast given notes =
    (earlier : List Telling) × (earlier ++ told_in notes ≡ tellings given)
