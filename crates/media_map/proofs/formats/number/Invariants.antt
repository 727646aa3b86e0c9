-- The digits so far are a number of the range, and few.
use Rattle.std.proofs.Common.{◌≡◌, ◌<◌, ◌≤◌, length}
use Rattle.media_map.specs.Formats.{format_number}
use Rattle.media_map.specs.Views.{bytes_of}
use Rattle.media_map.proofs.Digits.{more_digits}
use Rattle.media_map.proofs.formats.number.Given as goal

abbrev pub invariant-each : goal.invariant-each
invariant-each l =
    (format_number (bytes_of l.value) ≡ more_digits l.count l.number (bytes_of l.rest)) × (l.number < 65536) × (l.count ≤ 5)

abbrev pub decreases-each : goal.decreases-each
decreases-each l = length l.rest.text.now
