-- Exchanges that a write outruns.
use Rattle.std.specs.Prelude.{ℕ, Bool, false, List, Option, Some, if◌then◌else◌}
use Rattle.ask_model.specs.Requests.{CoapRequest}
use Rattle.ask_model.specs.Sharing.{asked_place, writes_to}
use Rattle.journal_book.specs.Entries.{Written}
use Rattle.exchange_model.specs.declared.kept.Exchange.{Exchange}
use Rattle.exchange_model.specs.Matters.{asked_in}
use Rattle.exchange_table.specs.Tables.{is_opened_at}

-- whether a write, which has ended, was to the place of this request
abbrev pub outdates : Option CoapRequest → Option CoapRequest → Bool
outdates (Some w) (Some q) = writes_to (asked_place q) w
outdates _ _ = false

abbrev pub outrun_with : Option CoapRequest → List Written → Exchange → Exchange
outrun_with w ws e =
    if outdates w (asked_in ws e.ask) then record e { current = false } else e

-- so of the one that the entry with this number opened
abbrev pub only_at : ℕ → (Exchange → Exchange) → Exchange → Exchange
only_at o f e = if is_opened_at o e then f e else e
