-- What was looked at is justified.
use Rattle.std.proofs.Common.{take}
use Rattle.std.specs.List.{All}
use Rattle.gateway_desk.specs.Settled.{IsJustified}
use Rattle.gateway_desk.proofs.settling.stranger_in.Given as goal

abbrev pub invariant-each : goal.invariant-each
invariant-each g l = All (IsJustified l.journal.entries) (take l.pass-index l.passes)
