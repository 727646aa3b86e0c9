-- So far nothing was read.
use Rattle.std.proofs.Common.{◌≡◌, ◌-◌, true, vec_len}
use Rattle.http_edge.specs.Edges.{is_told}
use Rattle.gateway_connections.specs.Readers.{IsInStep}
use Rattle.gateway_connections.proofs.reader.Reader.read.Given as goal

abbrev pub invariant-each : goal.invariant-each
invariant-each l =
    IsInStep l.self × (l.self.bytes ≡ l.initial.self.bytes) × (l.self.start ≡ l.initial.self.start) × (is_told l.self.edge ≡ true → is_told l.initial.self.edge ≡ true)

abbrev pub decreases-each : goal.decreases-each
decreases-each l = vec_len l.self.bytes - l.self.taken
