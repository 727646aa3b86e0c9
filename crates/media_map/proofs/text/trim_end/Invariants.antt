-- The bytes that were left out are blank.
use Rattle.std.proofs.Common.{◌≡◌, ◌≤◌, take, length}
use Rattle.media_map.specs.Texts.{trim_end}
use Rattle.media_map.proofs.text.trim_end.Given as goal

abbrev pub invariant-each : goal.invariant-each
invariant-each l = (trim_end l.text ≡ trim_end (take l.len l.text)) × (l.len ≤ length l.text)

abbrev pub decreases-each : goal.decreases-each
decreases-each l = l.len
