use Rattle.std.proofs.Common.{◌≡◌, ℕ, ◌<◌, get_or, false}
use Rattle.uri_map.specs.Marks.{ends}
use Rattle.uri_map.proofs.marks.index_of.Given as goal

abbrev pub invariant-each : goal.invariant-each
invariant-each l = (k : ℕ) → k < l.i → ends l.mark (get_or l.text k 0) ≡ false
