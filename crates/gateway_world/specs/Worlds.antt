-- What contracts see of a world, and what inputs do to it.
use Rattle.limits.specs.declared.TheConstants.{LAST_MOMENT, MAX_UNREAD}
use Rattle.std.specs.Prelude.{◌≡◌, ℕ, false, length, min, max, ⊤, List, [], ◌++◌}
use Rattle.ask_model.specs.Views.{Rules}
use Rattle.journal_book.specs.Entries.{Written}
use Rattle.exchange_model.specs.Keeping.{start}
use Rattle.exchange_core.specs.States.{core_of}
use Rattle.exchange_core.specs.Values.{CoreValue}
use Rattle.gateway_model.specs.declared.input.Happening.{Happening}
use Rattle.gateway_model.specs.declared.input.Happening.TheVariants as H
use Rattle.gateway_model.specs.declared.input.Input.{Input}
use Rattle.gateway_model.specs.declared.input.When.{When}
use Rattle.exchange_model.specs.State.{State}
use Rattle.gateway_model.specs.Acts.{Served, Terms, at}
use Rattle.gateway_model.specs.Hearing.{ShowsWhatCame, DoesWhatIsDue}
use Rattle.gateway_model.specs.Resting.{AllRest}
use Rattle.gateway_model.specs.Waiting.{IsDrained}
use Rattle.gateway_model.specs.Emissions.{Emission}
use Rattle.gateway_connections.specs.Inlets.{Inlet, is_full_at}
use Rattle.gateway_model.specs.Backlog.{PassesLimit}
use Rattle.gateway_model.specs.Unasked.{unasked_in}
use Rattle.gateway_world.specs.declared.engine.Engine.{Engine}
use Rattle.gateway_world.specs.Leading.{Leads}
use Rattle.gateway_model.specs.Orders.{IsInOrder}

-- a core, its open connections, the rules by which requests are mapped, and the moment of the last
-- input
pub record WorldValue : Type 0 where
  pub core : CoreValue
  pub inlets : List Inlet
  pub rules : Rules
  pub moment : ℕ

abbrev pub world_of : {R : Type 0} → Engine R → Rules → ℕ → WorldValue
world_of e rules moment =
    record { core = e.core; inlets = e.table.current; rules = rules; moment = moment }

-- A moment below the last one counts as that, and one above 2 ^ 62 as this.
abbrev pub counted : ℕ → ℕ → ℕ
counted last moment = max last (min moment LAST_MOMENT)

-- What of a journal left memory: how many of its first entries, and which of them stand there still.
pub record Memory : Type 0 where
  pub given : ℕ
  pub kept : List ℕ

abbrev pub memory_of : WorldValue → Memory
memory_of w = record { given = w.core.state.given; kept = w.core.state.kept }

-- Entries left memory: all else is as it was.
abbrev pub with_memory : Memory → WorldValue → WorldValue
with_memory m w = record w {
  core = record w.core { state = record w.core.state { given = m.given; kept = m.kept } };
}

abbrev pub served_in : WorldValue → Served
served_in w = record { core = w.core; unasked = unasked_in w.inlets }

abbrev pub when_in : WorldValue → Input → When
when_in w i = record { moment = counted w.moment i.moment; word = i.word }

-- An input leads from one world to the other, and gives this out.
pub record Handles (M : Terms) (i : Input) (old : WorldValue) (out : List Emission)
    (new : WorldValue) : Type 0 where
  pub acts : Leads M (when_in old i) (IsInOrder i.happening) (served_in old) [] (served_in new) out
  pub rules : new.rules ≡ old.rules
  pub moment : new.moment ≡ counted old.moment i.moment

-- Between two inputs nothing waits to be given out, and nothing that could be asked.
pub record IsAtRest (w : WorldValue) : Type 0 where
  pub drained : IsDrained w.core
  pub rests : AllRest (served_in w)

-- What came in by an input shows in the entries that it adds; and at a tick all was done that is
-- due.
abbrev pub DoesDue : Happening → ℕ → State → List Written → Type 0
DoesDue H.Tick t S more = DoesWhatIsDue t S more
DoesDue _ t S more = ⊤

pub record Shows (i : Input) (old new : WorldValue) : Type 0 where
  pub more : List Written
  pub added : new.core.state.entries ≡ old.core.state.entries ++ more
  pub shown : ShowsWhatCame i.happening (at (when_in old i) (served_in old)) old.core.state
      new.core.state more
  pub due : DoesDue i.happening (at (when_in old i) (served_in old)) old.core.state more

-- a world to which nothing has happened
abbrev pub new_world : Rules → WorldValue
new_world rules = record { core = core_of start [] []; inlets = []; rules = rules; moment = 0 }

-- Bytes come of a connection that with those that wait unread are more than 1,048,576.
abbrev pub IsTooMuch : Happening → Served → Type 0
IsTooMuch (H.Bytes c bytes) s = PassesLimit c (length bytes.now) s
IsTooMuch _ s = ⊥

-- All that came of the connection was asked: beside what waits of it there is room for as many bytes
-- as may wait, so none does. Or its last request was read, after which none counts.
abbrev pub IsAllAsked : ℕ → WorldValue → Type 0
IsAllAsked c w = is_full_at c false MAX_UNREAD w.inlets ≡ false
