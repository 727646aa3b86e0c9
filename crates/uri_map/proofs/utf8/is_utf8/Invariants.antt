use Rattle.std.proofs.Common.{◌≡◌, length}
use Rattle.std.specs.Str.{is_utf8}
use Rattle.percent_encoding.specs.Percent.{percent_decode}
use Rattle.percent_encoding.specs.Iter.{decoded_bytes}
use Rattle.uri_map.proofs.utf8.is_utf8.Given as goal

abbrev pub invariant-each : goal.invariant-each
invariant-each l = is_utf8 (decoded_bytes l.bytes) ≡ is_utf8 (percent_decode l.text)

abbrev pub decreases-each : goal.decreases-each
decreases-each l = length (decoded_bytes l.bytes)
