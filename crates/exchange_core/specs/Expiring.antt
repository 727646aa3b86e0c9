-- Exchanges that end at a tick, by the messages that are given up.
use Rattle.std.specs.Prelude.{ℕ, Bool, false, ◌&&◌, ◌||◌, List, Option, Some, None}
use Rattle.std.specs.Str.{bytes_eq}
use Rattle.exchange_model.specs.declared.kept.Exchange.{Exchange}
use Rattle.exchange_model.specs.State.{PeerLink, link_of}
use Rattle.exchange_model.specs.Hearing.{is_past}
use Rattle.endpoint_table.specs.GivenUps.{given_at, given_up}
use Rattle.endpoint_table.specs.declared.given_up.GivenUp.{GivenUp}

abbrev pub is_that : Option (List ℕ) → List ℕ → Bool
is_that None token = false
is_that (Some given) token = bytes_eq given token

-- whether an exchange ends: it has been open for as long as it may, or the message to which it
-- awaits a reply is given up
abbrev pub is_over : ℕ → List PeerLink → Exchange → Bool
is_over t links e =
    is_past t e || (e.awaits && is_that (given_up t (link_of links e.peer)) e.token)

-- ... by the messages that are listed as given up
abbrev pub is_over_by : ℕ → List GivenUp → Exchange → Bool
is_over_by t gs e =
    is_past t e || (e.awaits && is_that (given_at gs e.peer) e.token)
