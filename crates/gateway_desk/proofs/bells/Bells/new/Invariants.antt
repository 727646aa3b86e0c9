-- As many bells as turns.
use Rattle.std.specs.Prelude.{◌≡◌, vec_len}
use Rattle.gateway_desk.proofs.bells.Bells.new.Given as goal

abbrev pub invariant-each : goal.invariant-each
invariant-each l = vec_len l.all ≡ l.counter
