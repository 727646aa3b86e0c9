-- The bytes so far are those of a base.
use Rattle.std.proofs.Common.{◌≡◌, drop}
use Rattle.std.specs.List.{list_all}
use Rattle.proxy_settings.specs.Values.{is_base_byte}
use Rattle.proxy_settings.proofs.values.are_base_bytes.Given as goal

abbrev pub invariant-each : goal.invariant-each
invariant-each l = list_all is_base_byte l.bytes ≡ list_all is_base_byte (drop l.byte-index l.bytes)
