-- What contracts see of a gateway.
use Rattle.std.specs.Prelude.{◌≡◌, ⊤, ℕ, map, slice_get, Option, Some, None}
use Rattle.journal_book.specs.Views.{item_of}
use Rattle.exchange_model.specs.Resting.{HasConn}
use Rattle.gateway_model.specs.declared.input.Happening.{Happening}
use Rattle.gateway_model.specs.declared.input.Happening.TheVariants as H
use Rattle.gateway_world.specs.declared.engine.Step.{Step}
use Rattle.gateway_world.specs.Giving.{IsGivenOut}
use Rattle.gateway_world.specs.Openings.{IsCounted}
use Rattle.gateway_world.specs.Refusals.{IfTaken, IsRefused, opened_in}
use Rattle.gateway_world.specs.Worlds.{WorldValue, IsAllAsked, Memory, memory_of, with_memory}
use Rattle.gateway_loop.specs.declared.leaving.Segment.{Segment}
use Rattle.gateway_loop.specs.Places.{ClientsValue, IsWritten}

pub record GatewayValue (S W : Type 0) : Type 0 where
  pub world : WorldValue
  pub clients : ClientsValue S
  pub wire : W

-- Something may be asked of the connection: nothing is left to be written for it, and it waits for
-- no answer.
pub record MayAsk {S W : Type 0} (n : ℕ) (g : GatewayValue S W) : Type 0 where
  pub written : IsWritten (slice_get g.clients.places n)
  pub idle : HasConn g.world.core.state.conns n None

-- Its stream may go on as another connection: besides, all that came of it was asked.
pub record MayGoOn {S W : Type 0} (n : ℕ) (g : GatewayValue S W) : Type 0 where
  pub may_ask : MayAsk n g
  pub asked : IsAllAsked n g.world

-- It brings nothing, and no connection opens with it.
abbrev pub IsBare : Happening → Type 0
IsBare H.Tick = ⊤
IsBare (H.Close c) = ⊤
IsBare _ = ⊥

-- It brings no bytes of a connection, so never too many.
abbrev pub BringsNoBytes : Happening → Type 0
BringsNoBytes (H.Bytes c bytes) = ⊥
BringsNoBytes _ = ⊤

-- The segment that leaves memory has the number of the first entry that was held.
abbrev pub IsNumbered : {R : Type 0} → Segment R → WorldValue → Type 0
IsNumbered s w = s.first ≡ (memory_of w).given

-- The next segment of the history leaves memory, where one is given out; and nothing else changes.
abbrev pub GivesNext : {R : Type 0} → Option (Segment R) → WorldValue → WorldValue → Type 0
GivesNext (Some s) old new =
    IsNumbered s old × IsGivenOut (map item_of s.entries.items) old new
GivesNext None old new = new ≡ old

-- Entries left memory, if any did, and nothing else changed.
abbrev pub IsShorter : WorldValue → WorldValue → Type 0
IsShorter old new = (m : Memory) × (new ≡ with_memory m old)

-- An input is taken, or refused, after entries left memory, if any did.
pub record IsTriedAfter (Taken : WorldValue → Type 0) (x : Happening) (step : Step)
    (old new : WorldValue) : Type 0 where
  pub memory : Memory
  pub takes : IfTaken step (Taken (with_memory memory old))
  pub stays : IsRefused step → new ≡ with_memory memory old
  pub opened : IsCounted x (opened_in step) (with_memory memory old).core new.core
