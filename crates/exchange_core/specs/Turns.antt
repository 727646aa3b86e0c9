-- The turns of the endpoints at a tick.
use Rattle.std.specs.Prelude.{List, ⊤}
use Rattle.std.specs.List.{AllByRecursion}
use Rattle.message_layer.specs.declared.prepared.Ticking.{Ticking}
use Rattle.message_layer.specs.declared.prepared.Ticking.TheVariants.{GivesUp}
use Rattle.endpoint_table.specs.declared.turns.Turn.{Turn}
use Rattle.exchange_core.specs.Sending.{IsTimed}

-- What it sends first has a timeout of 32 bits.
abbrev pub IsTimedTurn : Ticking → Type 0
IsTimedTurn (GivesUp token next) = IsTimed next
IsTimedTurn _ = ⊤

abbrev pub AreTimed : List Turn → Type 0
AreTimed ks = AllByRecursion (λ (k : Turn). IsTimedTurn k.ticking) ks
