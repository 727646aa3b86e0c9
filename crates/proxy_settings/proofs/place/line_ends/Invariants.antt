use Rattle.std.proofs.Common.{◌≡◌, length, take}
use Rattle.std.specs.Prelude.{count_by}
use Rattle.proxy_settings.specs.Files.{is_line_end}
use Rattle.proxy_settings.proofs.place.line_ends.Given as goal

abbrev pub invariant-each : goal.invariant-each
invariant-each l = length l.ends.items ≡ count_by is_line_end (take l.i l.text)
