-- So far all are empty.
use Rattle.std.proofs.Common.{length, ◌-◌, ◌≡◌, ◌≤◌, take}
use Rattle.gateway_loop.specs.Places.{empty_places}
use Rattle.gateway_loop.proofs.clients.empty_before.Given as goal

abbrev pub invariant-loop-empty : goal.invariant-loop-empty
invariant-loop-empty g l = (l.empty ≤ length l.places) × (take l.empty l.places ≡ empty_places l.empty)

abbrev pub decreases-loop-empty : goal.decreases-loop-empty
decreases-loop-empty g l = length l.places - l.empty
