-- The notes are in order just where those left are, with asks from this number on.
use Rattle.std.proofs.Common.{◌↔◌, drop, map}
use Rattle.gateway_desk.specs.Lines.{line_of}
use Rattle.gateway_desk.specs.Settled.{AreInOrder}
use Rattle.gateway_desk.proofs.Looks.{AreLeft}
use Rattle.gateway_desk.proofs.standing.early.Given as goal

abbrev pub invariant-each : goal.invariant-each
invariant-each g l = AreLeft l.from (map line_of (drop l.note-index l.notes)) ↔ AreInOrder (map line_of l.notes)
