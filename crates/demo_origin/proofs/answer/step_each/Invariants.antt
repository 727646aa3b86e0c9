use Rattle.std.proofs.Common.{◌≡◌, ◌++◌, map, take, drop}
use Rattle.demo_origin.specs.Peers.{stepped}
use Rattle.demo_origin.proofs.answer.step_each.Given as goal

abbrev pub invariant-each : goal.invariant-each
invariant-each l =
    l.clients
    ≡ map (stepped l.moment l.peer l.kind) (take l.c-index l.initial.clients)
    ++ drop l.c-index l.initial.clients
