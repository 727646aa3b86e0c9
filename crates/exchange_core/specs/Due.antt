-- When a tick has something to do.
use Rattle.std.specs.Prelude.{◌≡◌, ℕ, ◌+◌, ◌<◌, ◌≤◌, true, false, List, length, Option, option_map, if◌then◌else◌}
use Rattle.limits.specs.declared.TheConstants.{LAST_MOMENT, MAX_TRANSMIT_WAIT}
use Rattle.observe_share.specs.declared.registration.Registration.{Registration}
use Rattle.exchange_model.specs.declared.kept.Exchange.{Exchange}
use Rattle.exchange_model.specs.declared.kept.Reader.{Reader}
use Rattle.exchange_model.specs.State.{State}
use Rattle.exchange_model.specs.Calls.{read_by}
use Rattle.exchange_model.specs.Due.{earliest, next_due, has_come}
use Rattle.exchange_model.specs.Sealing.{ticks_in_room}

-- The moment at which it was opened is one of a core's.
abbrev pub IsSince : Exchange → Type 0
IsSince e = e.since ≤ LAST_MOMENT

-- So is that of the last ask for what is observed.
abbrev pub IsAskedEarly : Registration → Type 0
IsAskedEarly r = r.asked ≤ LAST_MOMENT

-- the moment at which the exchange that the reader waits for took too long
abbrev pub late_at : Exchange → ℕ
late_at e = e.since + MAX_TRANSMIT_WAIT

abbrev pub read_deadline : List Exchange → Reader → Option ℕ
read_deadline es r = option_map late_at (read_by es r)

-- the first such moment, of all who wait
abbrev pub next_late : List Reader → List Exchange → Option ℕ
next_late rs es = earliest (read_deadline es) rs

-- After the seal a tick answers these alone.
abbrev pub next_tick : State → Option ℕ
next_tick S = if S.sealed then next_late S.readers S.exchanges else next_due S

-- A tick adds entries from that moment on, and changes nothing before.
pub record IsNextTick (due : Option ℕ) (S : State) : Type 0 where
  pub stays : (t : ℕ) → has_come t due ≡ false → ticks_in_room t S ≡ S
  pub adds : (t : ℕ) → S.moment ≤ t → has_come t due ≡ true
      → length S.entries < length (ticks_in_room t S).entries
