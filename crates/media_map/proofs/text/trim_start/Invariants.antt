-- The bytes so far are blank.
use Rattle.std.proofs.Common.{◌≡◌, drop}
use Rattle.media_map.specs.Texts.{trim_start}
use Rattle.media_map.proofs.text.trim_start.Given as goal

abbrev pub invariant-each : goal.invariant-each
invariant-each l = trim_start l.text ≡ trim_start (drop l.i l.text)
