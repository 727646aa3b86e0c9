-- None of those that were looked at is the message.
use Rattle.std.specs.Prelude.{◌≡◌, drop}
use Rattle.std.specs.List.{find}
use Rattle.demo_origin.specs.Arrivals.{is_repeat}
use Rattle.demo_origin.proofs.arrival.remembered_as.Given as goal

abbrev pub invariant-each : goal.invariant-each
invariant-each l =
    find (is_repeat l.moment l.peer l.mid) l.all
    ≡ find (is_repeat l.moment l.peer l.mid) (drop l.r-index l.all)
