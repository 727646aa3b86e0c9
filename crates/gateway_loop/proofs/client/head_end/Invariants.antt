-- No line ended yet that is empty.
use Rattle.std.proofs.Common.{◌≡◌, ◌≤◌, ◌+◌, ◌-◌, false, length, drop}
use Rattle.gateway_loop.specs.Telling.{head_len}
use Rattle.gateway_loop.proofs.client.head_end.Given as goal

abbrev pub invariant-lines : goal.invariant-lines
invariant-lines l = (l.at ≤ length l.bytes)
    × (head_len false l.bytes ≡ l.at + head_len false (drop l.at l.bytes))

abbrev pub decreases-lines : goal.decreases-lines
decreases-lines l = length l.bytes - l.at
