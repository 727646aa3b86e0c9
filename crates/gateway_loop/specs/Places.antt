-- Connections by their numbers: each has the place of its number, which is empty once it ended.
use Rattle.std.specs.Prelude.{◌≡◌, ◌≢◌, ◌≤◌, ◌⊎◌, ⊤, ℕ, Bool, true, false, List, [], ◌∷◌, ◌++◌}
use Rattle.std.specs.Prelude.{length, replicate, slice_get}
use Rattle.std.specs.Prelude.{Option, Some, None}
use Rattle.gateway_loop.specs.Clients.{ClientValue, BeginsUnfed}
use Rattle.gateway_loop.specs.Telling.{NotesValue, Off}

-- the places; the line of those that have something to do; whether all have their turns besides, since
-- memory was refused for the line; and what is told of what was given out
pub record ClientsValue (S : Type 0) : Type 0 where
  pub places : List (Option (ClientValue S))
  pub line : List ℕ
  pub everyone : Bool
  pub told : NotesValue

abbrev pub no_clients : {S : Type 0} → ClientsValue S
no_clients = record { places = []; line = []; everyone = false; told = Off }

-- These have their turns after those before them; or everyone has.
abbrev pub HaveTurns : {S : Type 0} → List ℕ → ClientsValue S → ClientsValue S → Type 0
HaveTurns ns old new =
    (new.everyone ≡ true) ⊎ ((new.everyone ≡ old.everyone) × (new.line ≡ old.line ++ ns))

-- so many places that nobody has
abbrev pub empty_places : {A : Type 0} → ℕ → List (Option A)
empty_places n = replicate n None

-- What stands at a place changes so, if anything does.
abbrev pub IsChanged : {A : Type 0} → (A → A → Type 0) → Option (Option A) → Option (Option A)
    → Type 0
IsChanged P (Some (Some x)) (Some (Some y)) = P x y
IsChanged P (Some None) (Some None) = ⊤
IsChanged P None None = ⊤
IsChanged P _ _ = ⊥

-- Each connection changes so; none comes and none goes.
pub record EachChanges {A : Type 0} (P : ℕ → A → A → Type 0) (old new : List (Option A))
    : Type 0 where
  pub count : length new ≡ length old
  pub each : (c : ℕ) → IsChanged (P c) (slice_get old c) (slice_get new c)

-- What stands at a place changes so, or is gone, for such a reason.
abbrev pub IsKept : {A : Type 0} → (A → A → Type 0) → (A → Type 0) → Option (Option A)
    → Option (Option A) → Type 0
IsKept P Gone (Some (Some x)) (Some (Some y)) = P x y
IsKept P Gone (Some (Some x)) (Some None) = Gone x
IsKept P Gone (Some None) (Some None) = ⊤
IsKept P Gone None None = ⊤
IsKept P Gone _ _ = ⊥

-- Each connection changes so, or is gone, for such a reason; none comes.
pub record EachKept {A : Type 0} (P : ℕ → A → A → Type 0) (Gone : ℕ → A → Type 0)
    (old new : List (Option A)) : Type 0 where
  pub count : length new ≡ length old
  pub each : (c : ℕ) → IsKept (P c) (Gone c) (slice_get old c) (slice_get new c)

-- Only the connection with this number changes.
pub record OnlyAt {A : Type 0} (n : ℕ) (P : A → A → Type 0) (c : ℕ) (x y : A) : Type 0 where
  pub changes : c ≡ n → P x y
  pub same : c ≢ n → y ≡ x

-- The connection with this number isn't there any more; all others are as they were.
pub record IsEmptied {A : Type 0} (n : ℕ) (old new : List (Option A)) : Type 0 where
  pub count : length new ≡ length old
  pub none : (x : A) → slice_get new n ≢ Some (Some x)
  pub others : (c : ℕ) → c ≢ n → slice_get new c ≡ slice_get old c

-- The connection with this number is gone; or only it changes, and so.
abbrev pub IsGoneOr : {A : Type 0} → ℕ → (A → A → Type 0) → List (Option A) → List (Option A) → Type 0
IsGoneOr n P old new = (EachChanges (OnlyAt n P) old new) ⊎ (IsEmptied n old new)

-- What stood at this place stands at the next one that is made.
pub record IsCarried {A : Type 0} (n : ℕ) (old new : List (Option A)) : Type 0 where
  pub here : A
  pub was : slice_get old n ≡ Some (Some here)
  pub rest : List (Option A)
  pub emptied : IsEmptied n old rest
  pub next : new ≡ rest ++ Some here ∷ []

-- Nobody is there.
abbrev pub IsNobody : {A : Type 0} → Option (Option A) → Type 0
IsNobody (Some (Some x)) = ⊥
IsNobody _ = ⊤

-- Nothing is left to be written for such a connection.
abbrev pub IsWritten : {S : Type 0} → Option (Option (ClientValue S)) → Type 0
IsWritten (Some (Some x)) = x.left ≡ []
IsWritten _ = ⊤

-- The piece comes first of what isn't an input yet of such a connection; where none is, it is empty.
abbrev pub IsPiece : {S : Type 0} → Option (Option (ClientValue S)) → List ℕ → Type 0
IsPiece (Some (Some x)) piece = BeginsUnfed piece x
IsPiece _ piece = length piece ≡ 0

-- So many bytes of the connection aren't an input yet.
abbrev pub HasUnfed : {S : Type 0} → ℕ → Option (Option (ClientValue S)) → Type 0
HasUnfed count (Some (Some x)) = count ≤ length x.unfed
HasUnfed count _ = ⊤

-- Who waits longest, of all who wait, comes first.
abbrev pub IsFirst : Option ℕ → List ℕ → Type 0
IsFirst (Some n) [] = ⊥
IsFirst (Some n) (x ∷ xs) = x ≡ n
IsFirst None all = all ≡ []

-- He waits no more.
abbrev pub IsNext : Option ℕ → List ℕ → List ℕ → Type 0
IsNext (Some n) old new = old ≡ n ∷ new
IsNext None old new = (old ≡ []) × (new ≡ [])
