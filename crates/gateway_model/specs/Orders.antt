-- In which order an input's acts are done.
use Rattle.std.specs.Prelude.{◌≡◌, ◌⊎◌, ℕ, ◌+◌, ◌≤◌, ⊤, Bool, true, false, List, [], ◌∷◌, ◌++◌, flat_map}
use Rattle.std.specs.List.{AllByRecursion}
use Rattle.gateway_model.specs.declared.input.Happening.{Happening}
use Rattle.gateway_model.specs.declared.input.Happening.TheVariants as H
use Rattle.gateway_model.specs.Acts.{Act, Opens, TurnsAway, Takes, Hears, Passes, Asks, Denies, Sends, Tells, GoesOn, GivesUp, Forgoes, Rests, Leaves, Misses}

-- It is done for this connection: it is asked for or told, or given up; or a datagram goes out.
abbrev pub IsFor : ℕ → Act → Type 0
IsFor c (Asks d) = d ≡ c
IsFor c (Denies d) = d ≡ c
IsFor c Sends = ⊤
IsFor c (Tells d k) = d ≡ c
IsFor c (GoesOn d) = d ≡ c
IsFor c (GivesUp d) = d ≡ c
IsFor c (Forgoes d k) = d ≡ c
IsFor c _ = ⊥

abbrev pub AreFor : ℕ → List Act → Type 0
AreFor c acts = AllByRecursion (IsFor c) acts

-- The connection is served until nothing more can be asked.
pub record ServesOut (c : ℕ) (acts : List Act) : Type 0 where
  pub first : List Act
  pub are : acts ≡ first ++ Rests c ∷ []
  pub for : AreFor c first

abbrev pub IsSends : Act → Type 0
IsSends Sends = ⊤
IsSends _ = ⊥

abbrev pub AreSends : List Act → Type 0
AreSends acts = AllByRecursion IsSends acts

-- a connection is told the answer to an ask, and what it asks further is done; or nobody is told it
pub record Turn : Type 0 where
  pub conn : ℕ
  pub ask : ℕ
  pub told : Bool
  pub further : List Act

abbrev pub telling : Bool → ℕ → ℕ → Act
telling true c k = Tells c k
telling false c k = Forgoes c k

abbrev pub acts_of : Turn → List Act
acts_of x = telling x.told x.conn x.ask ∷ x.further

abbrev pub IsTurn : Turn → Type 0
IsTurn x = ServesOut x.conn x.further

-- The asks rise, all of them from the first number on and below the last.
abbrev pub Rise : ℕ → List Turn → ℕ → Type 0
Rise n [] m = n ≤ m
Rise n (x ∷ xs) m = (n ≤ x.ask) × Rise (x.ask + 1) xs m

-- The connection is told the answer to the ask, or it is forgone.
abbrev pub IsTelling : ℕ → ℕ → List Act → Type 0
IsTelling c k acts = (told : Bool) × (acts ≡ telling told c k ∷ [])

-- The answers are told, or forgone, in the order of their asks, which are below this number, each
-- followed by what its connection asks further.
pub record AreTurns (m : ℕ) (acts : List Act) : Type 0 where
  pub turns : List Turn
  pub are : acts ≡ flat_map acts_of turns
  pub each : AllByRecursion IsTurn turns
  pub rise : Rise 0 turns m

abbrev pub HasTurns : List Act → Type 0
HasTurns acts = (m : ℕ) × AreTurns m acts

-- The datagrams of the step go out first.
pub record Delivers (acts : List Act) : Type 0 where
  pub sends : List Act
  pub answers : List Act
  pub are : acts ≡ sends ++ answers
  pub sent : AreSends sends
  pub told : HasTurns answers

pub record BeginsWith (a : Act) (P : List Act → Type 0) (acts : List Act) : Type 0 where
  pub rest : List Act
  pub are : acts ≡ a ∷ rest
  pub then : P rest

-- What an input leads to. That a journal is rotated is no act.
abbrev pub IsInOrder : Happening → List Act → Type 0
IsInOrder H.Open acts = ((c : ℕ) × (acts ≡ Opens c ∷ [])) ⊎ (acts ≡ TurnsAway ∷ [])
IsInOrder (H.Bytes c bytes) acts = BeginsWith (Takes c bytes.now) (ServesOut c) acts
IsInOrder (H.Datagram p bytes) acts = BeginsWith (Hears p bytes.now) Delivers acts
IsInOrder H.Tick acts = BeginsWith Passes Delivers acts
IsInOrder (H.Close c) acts = (acts ≡ Leaves c ∷ []) ⊎ (acts ≡ Misses c ∷ [])
IsInOrder H.Rotate acts = ⊥
