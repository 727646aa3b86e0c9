-- What is said of an engine, before and after a step.
use Rattle.std.specs.Prelude.{◌≡◌, ◌⊎◌, ℕ, ◌==◌, ◌<◌, Bool, true, false, not, List, [], ◌∷◌, ◌++◌, map, filter, slice_get, Option, Some, None, ⊤}
use Rattle.media_map.specs.declared.form.Form.{Form}
use Rattle.ask_model.specs.Views.{Ask}
use Rattle.journal_book.specs.Entries.{Asks, Written}
use Rattle.exchange_model.specs.State.{State}
use Rattle.exchange_core.specs.Calls.{IsClosed}
use Rattle.exchange_core.specs.Snapshots.{Grows}
use Rattle.exchange_core.specs.Values.{CoreValue, Untaken}
use Rattle.gateway_world.specs.declared.engine.Context.{Context}
use Rattle.gateway_world.specs.declared.engine.Engine.{Engine}
use Rattle.gateway_world.specs.declared.engine.Step.{Step}
use Rattle.gateway_world.specs.declared.engine.Step.TheVariants as S
use Rattle.gateway_model.specs.declared.input.Happening.{Happening}
use Rattle.gateway_world.specs.Openings.{IsOpening}
use Rattle.gateway_model.specs.declared.input.When.{When}
use Rattle.gateway_model.specs.declared.input.Output.{Output}
use Rattle.gateway_model.specs.Acts.{Act, Terms, at}
use Rattle.gateway_model.specs.Emissions.{Emission, emissions, given_up_in, Closed, GivenUp}
use Rattle.gateway_model.specs.Orders.{AreFor, ServesOut}
use Rattle.gateway_model.specs.Waiting.{conn_id}
use Rattle.gateway_model.specs.Unasked.{unasked_in}
use Rattle.gateway_connections.specs.Inlets.{Inlet, inlet_at, without as without_inlet}
use Rattle.gateway_connections.specs.Reads.{work_of}
use Rattle.gateway_world.specs.Leading.{Leads, served_of, rules_in}
use Rattle.gateway_model.specs.Tellings.{terms_of}

-- what requests mean, and which responses tell an answer, by the settings
abbrev pub terms_in : (Form → Form → List ℕ → List ℕ → Type 0) → (Form → Form → List ℕ → Type 0)
    → Context → Terms
terms_in holds takes context = terms_of holds takes (rules_in context)

-- Entries were only added, and none was given out.
pub record GrowsOn (old new : State) : Type 0 where
  pub entries : Grows old.entries new.entries
  pub given : new.given ≡ old.given
  pub kept : new.kept ≡ old.kept

-- The engine can go back from the new to what it was: entries were only added, and what its
-- connections were marked as stays.
pub record MayGoBack {R : Type 0} (old new : Engine R) : Type 0 where
  pub grows : GrowsOn old.core.state new.core.state
  pub marked : new.table.marked ≡ old.table.marked

-- So it can, or no more connections are given up.
abbrev pub IsGivenBack : {R : Type 0} → Engine R → List Emission → Engine R → List Emission → Type 0
IsGivenBack old before new after =
    MayGoBack old new ⊎ (given_up_in after ≡ given_up_in before)

-- A connection that was open is closed.
pub record IsShutting {R : Type 0} (w : When) (c : ℕ) (old new : Engine R) : Type 0 where
  pub closed : IsClosed (at w (served_of old)) c old.core new.core
  pub inlets : new.table.current ≡ without_inlet c old.table.current

-- All datagrams were given out.
pub record IsSentOut (old new : CoreValue) : Type 0 where
  pub state : new.state ≡ old.state
  pub untaken : new.untaken ≡ old.untaken
  pub unsent : new.unsent ≡ []

-- What waited to be given out waits still, and nothing more does.
pub record KeepsWaiting (old new : CoreValue) : Type 0 where
  pub untaken : new.untaken ≡ old.untaken
  pub unsent : old.unsent ≡ [] → new.unsent ≡ []

-- what is left to read of a connection at most: it falls with each request
abbrev pub work_in : Option Inlet → ℕ
work_in None = 0
work_in (Some x) = work_of x

abbrev pub work_at : {R : Type 0} → ℕ → Engine R → ℕ
work_at c e = work_in (inlet_at c e.table.current)

-- The connections of the table are those of the core.
abbrev pub inlet_number : Inlet → ℕ
inlet_number x = x.number

-- Before an input the table has the connections of the core, and is marked as it is.
pub record IsReady {R : Type 0} (e : Engine R) : Type 0 where
  pub numbers : map inlet_number e.table.current ≡ map conn_id e.core.state.conns
  pub marked : e.table.marked ≡ e.table.current

-- The answer to the ask is let go, and all else waits still.
pub record LetsGo (k : ℕ) (old new : CoreValue) : Type 0 where
  pub untaken : new.untaken ≡ filter (λ (u : Untaken). not (u.ask == k)) old.untaken
  pub unsent : old.unsent ≡ [] → new.unsent ≡ []

-- If the entry with this number is an ask, it is one of the connection.
pub record IsAskOf (c k : ℕ) (h : List Written) : Type 0 where
  pub by :
      (t d : ℕ) (ask : Ask)
      → slice_get h k ≡ Some (record { moment = t; deed = Asks d ask }) → d ≡ c

-- So from a core and connections on, to the engine.
abbrev pub LeadsAfter : {R : Type 0} → Terms → When → (List Act → Type 0)
    → CoreValue → List Inlet → List (Output R) → Engine R → List (Output R) → Type 0
LeadsAfter M w P v xs before new after =
    Leads M w P (record { core = v; unasked = unasked_in xs }) (emissions before)
    (served_of new) (emissions after)

-- What was next is asked, and there may be more to ask; or the connection was served out.
abbrev pub ServesNext : Bool → ℕ → List Act → Type 0
ServesNext true c acts = AreFor c acts
ServesNext false c acts = ServesOut c acts

-- Where there may be more to ask, less is left.
abbrev pub GoesOn : {R : Type 0} → Bool → ℕ → Engine R → Engine R → Type 0
GoesOn true c old new = work_at c new < work_at c old
GoesOn false c old new = ⊤

-- A connection that was open is closed, and told so.
pub record IsShut {R : Type 0} (w : When) (c : ℕ) (old : Engine R) (before : List (Output R))
    (new : Engine R) (after : List (Output R)) : Type 0 where
  pub shuts : IsShutting w c old new
  pub told : emissions after ≡ emissions before ++ Closed c ∷ []

-- A connection that was open is given up, and told so.
pub record IsGivenUp {R : Type 0} (w : When) (c : ℕ) (old : Engine R) (before : List (Output R))
    (new : Engine R) (after : List (Output R)) : Type 0 where
  pub shuts : IsShutting w c old new
  pub told : emissions after ≡ emissions before ++ GivenUp c ∷ []

-- What it serves and what was given out are as before.
pub record IsUntouched {R : Type 0} (old : Engine R) (before : List (Output R))
    (new : Engine R) (after : List (Output R)) : Type 0 where
  pub core : new.core ≡ old.core
  pub current : new.table.current ≡ old.table.current
  pub marked : new.table.marked ≡ old.table.marked
  pub outputs : after ≡ before

-- Which connection opened, if it was done.
abbrev pub OpensBy : Happening → Step → ℕ → List Emission → List Emission → Type 0
OpensBy x (S.Taken n) next before after = IsOpening x n next before after
OpensBy x S.Refused next before after = ⊤
