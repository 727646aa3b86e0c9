-- What was seen are the numbers so far, and none of them was there twice.
use Rattle.std.specs.Ordering.{nat_cmp}
use Rattle.std.specs.BTreeSet.{contains}
use Rattle.gateway_desk.proofs.Sums.{WereSeen, AreSeen, AreApartTo}
use Rattle.gateway_desk.proofs.settling.repeated.Given as goal

abbrev pub invariant-each : goal.invariant-each
invariant-each l =
    WereSeen (contains nat_cmp l.seen) l.numbers l.number-index × AreSeen (contains nat_cmp l.seen) l.numbers l.number-index
    × AreApartTo l.numbers l.number-index
