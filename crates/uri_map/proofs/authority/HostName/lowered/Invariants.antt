use Rattle.std.proofs.Common.{◌≡◌, ◌≤◌, ◌++◌, length, take}
use Rattle.std.specs.Str.{str_to_ascii_lowercase}
use Rattle.percent_encoding.specs.Iter.{decoded_bytes}
use Rattle.uri_map.specs.Authority.{lowered}
use Rattle.uri_map.proofs.authority.HostName.lowered.Given as goal

abbrev pub invariant-each : goal.invariant-each
invariant-each l = record {
  read : take l.len l.bytes ++ str_to_ascii_lowercase (decoded_bytes l.rest) ≡ lowered l.text;
  within : l.len ≤ 255;
  size : length l.bytes ≡ 255;
}

abbrev pub decreases-each : goal.decreases-each
decreases-each l = length (decoded_bytes l.rest)
