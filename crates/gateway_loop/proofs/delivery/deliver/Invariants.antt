-- What was looked at so far was given on.
use Rattle.std.proofs.Common.{◌≡◌, ◌++◌, []}
use Rattle.std.specs.Vec.Iter.{drain_items}
use Rattle.gateway_model.specs.Emissions.{emissions}
use Rattle.gateway_model.specs.Going.{goes_in}
use Rattle.gateway_loop.specs.Delivery.{AreGiven, readied}
use Rattle.gateway_loop.specs.Places.{HaveTurns}
use Rattle.gateway_loop.specs.Sockets.{Grown}
use Rattle.gateway_loop.specs.Telling.{Tells}
use Rattle.gateway_loop.proofs.delivery.deliver.Given as goal

abbrev pub invariant-each : goal.invariant-each
invariant-each g l =
    (goal.iterator-each g).can_next l.output-iterator
    × (goal.iterator-each g).is_finite l.output-iterator
    × (l.yielded ++ drain_items l.output-iterator ≡ l.fn.outputs.items)
    × AreGiven (emissions l.yielded) l.initial.clients.places l.clients.places
    × HaveTurns (readied (emissions l.yielded)) l.initial.clients l.clients
    × Grown (g.W.Wire.sent l.initial.wire) (g.W.Wire.sent l.wire) (goes_in (emissions l.yielded))
    × Grown (g.W.Wire.heard l.initial.wire) (g.W.Wire.heard l.wire) []
    × Tells (emissions l.yielded) l.initial.clients.told l.clients.told
