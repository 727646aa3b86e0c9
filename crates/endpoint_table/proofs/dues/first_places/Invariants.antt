use Rattle.std.proofs.Common.{◌≡◌, ◌++◌, drop}
use Rattle.endpoint_table.specs.Dues.{first_places}
use Rattle.endpoint_table.proofs.dues.first_places.Given as goal

abbrev pub invariant-each : goal.invariant-each
invariant-each l =
    l.places.items ++ first_places l.moment (drop l.due-index l.dues) ≡ first_places l.moment l.dues
