-- A client that waits with its body is told to go on, once a request (RFC 9110 section 10.1.1).
use Rattle.std.specs.Prelude.{ℕ, ◌+◌, ◌≤◌, ◌==◌, if◌then◌else◌, List, [], ◌∷◌, Option, Some, None}
use Rattle.gateway_model.specs.declared.input.When.{When}
use Rattle.gateway_model.specs.Acts.{Act, Opens, Asks, Denies, GoesOn, Served, DoesAll}
use Rattle.gateway_model.specs.Emissions.{Emission}
use Rattle.gateway_model.specs.Resting.{any_terms}
use Rattle.gateway_model.specs.Unasked.{Unasked, unasked_at}

-- how often acts tell a connection to go on, and how many of its requests they read
abbrev pub goes_by : ℕ → Act → ℕ
goes_by c (GoesOn d) = if d == c then 1 else 0
goes_by c _ = 0

abbrev pub goes_in : ℕ → List Act → ℕ
goes_in c [] = 0
goes_in c (a ∷ acts) = goes_by c a + goes_in c acts

abbrev pub reads_by : ℕ → Act → ℕ
reads_by c (Asks d) = if d == c then 1 else 0
reads_by c (Denies d) = if d == c then 1 else 0
reads_by c _ = 0

abbrev pub reads_in : ℕ → List Act → ℕ
reads_in c [] = 0
reads_in c (a ∷ acts) = reads_by c a + reads_in c acts

-- how often they open it
abbrev pub opens_by : ℕ → Act → ℕ
opens_by c (Opens d) = if d == c then 1 else 0
opens_by c _ = 0

abbrev pub opens_in : ℕ → List Act → ℕ
opens_in c [] = 0
opens_in c (a ∷ acts) = opens_by c a + opens_in c acts

-- one, where the connection is open and wasn't told for the request that is next
abbrev pub untold : Option Unasked → ℕ
untold None = 0
untold (Some x) = if x.told then 0 else 1

-- It is told at most once for each request that is read, and once for the one that is next.
abbrev pub ActsContinue : Type 0
ActsContinue =
    (w : When) (acts : List Act) (old : Served) (out : List Emission) (new : Served) (c : ℕ)
    → DoesAll any_terms w acts old out new
    → goes_in c acts + untold (unasked_at c new.unasked)
    ≤ reads_in c acts + (untold (unasked_at c old.unasked) + opens_in c acts)
