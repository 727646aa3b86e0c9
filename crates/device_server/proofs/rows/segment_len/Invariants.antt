-- None of those that were looked at is a slash.
use Rattle.std.proofs.Common.{◌≡◌, ℕ, ◌<◌, get_or, false, ◌==◌}
use Rattle.device_server.proofs.rows.segment_len.Given as goal

abbrev pub invariant-each : goal.invariant-each
invariant-each l = (k : ℕ) → k < l.i → (get_or l.path k 0 == 47) ≡ false
