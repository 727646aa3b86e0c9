use Rattle.std.proofs.Common.{◌≤◌, ℕ, List, length}
use Rattle.http_edge.specs.declared.framing.Framing.{Framing}
use Rattle.http_edge.specs.Bodies.{SoFar}
use Rattle.http_edge.proofs.body.fill_body.Given as goal

abbrev pub invariant-each : goal.invariant-each
invariant-each l = ((f : Framing) (text : List ℕ) → SoFar f l.initial.left l.initial.body.items l.initial.unread text → SoFar f l.left l.body.items l.unread text) × (length l.unread ≤ length l.initial.unread)

abbrev pub decreases-each : goal.decreases-each
decreases-each l = length l.unread
