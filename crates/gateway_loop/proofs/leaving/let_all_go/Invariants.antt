-- So far entries left memory alone.
use Rattle.gateway_loop.specs.Gateways.{IsShorter}
use Rattle.gateway_loop.proofs.leaving.let_all_go.Given as goal

abbrev pub invariant-each : goal.invariant-each
invariant-each g l = IsShorter l.initial.world l.world
