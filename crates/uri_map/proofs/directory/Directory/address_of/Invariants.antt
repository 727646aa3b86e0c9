use Rattle.std.proofs.Common.{◌≡◌, drop}
use Rattle.uri_map.specs.Peers.{address_in}
use Rattle.uri_map.proofs.directory.Directory.address_of.Given as goal

abbrev pub invariant-each : goal.invariant-each
invariant-each l = address_in (drop l.listed-index l.listed-items) l.name ≡ address_in l.listed-items l.name
