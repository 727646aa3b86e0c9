-- All of them are CR so far.
use Rattle.std.proofs.Common.{◌≡◌, ◌≤◌, ◌+◌, ◌-◌, true, length, drop}
use Rattle.gateway_loop.specs.Telling.{head_len}
use Rattle.gateway_loop.proofs.client.behind_crs.Given as goal

abbrev pub invariant-crs : goal.invariant-crs
invariant-crs l = (l.from ≤ l.at) × (l.at ≤ length l.bytes)
    × (head_len true (drop l.from l.bytes) ≡ (l.at - l.from) + head_len true (drop l.at l.bytes))

abbrev pub decreases-crs : goal.decreases-crs
decreases-crs l = length l.bytes - l.at
