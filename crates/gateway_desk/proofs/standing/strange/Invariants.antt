-- What was looked at stands.
use Rattle.std.proofs.Common.{take}
use Rattle.std.specs.List.{All}
use Rattle.gateway_desk.specs.Lines.{line_of}
use Rattle.gateway_desk.specs.Settled.{HasLine}
use Rattle.gateway_desk.proofs.standing.strange.Given as goal

abbrev pub invariant-each : goal.invariant-each
invariant-each g l = All (λ n. HasLine l.journal.entries l.conn (line_of n)) (take l.note-index l.notes)
