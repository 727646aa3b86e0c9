use Rattle.std.proofs.Common.{sym, arith, add-one}
use Rattle.resp_cache.specs.Names.{IsFirstFrom}
use Rattle.resp_cache.proofs.Naming.{found-place, none-before, one-more-not}
use Rattle.resp_cache.proofs.names.place_of_slot.Goals as goal

pub each-init : goal.each-init
each-init c =
    let first : IsFirstFrom c.args.rank c.args.names.now c.first_from-place.result = rw c.from.ensures at c.first_from-place.ensures in
    (c.first_from-place.ensures.within, none-before c.args.slot c.args.names.now (record { rank = c.args.rank; slot = c.args.slot }) c.first_from-place.result c.requires.there first)

pub each-smaller : goal.each-smaller
each-smaller c =
    let h = one-more-not c.args.slot c.args.names.now c.each.place (sym c.each-test.ensures) c.each.invariant.1 in
    let lt = h.0 in
    omega (arith, lt)

pub each-preserved : goal.each-preserved
each-preserved c =
    let h = one-more-not c.args.slot c.args.names.now c.each.place (sym c.each-test.ensures) c.each.invariant.1 in
    let lt = h.0 in
    (omega (arith, lt), rw (add-one c.each.place) h.1)

pub returns-clause-within : goal.returns-clause-within
returns-clause-within c = (found-place c.args.slot c.args.names.now (record { rank = c.args.rank; slot = c.args.slot }) c.each.place c.requires.there (sym c.each-test.ensures) c.each.invariant.1).0

pub returns-clause-only : goal.returns-clause-only
returns-clause-only c = (found-place c.args.slot c.args.names.now (record { rank = c.args.rank; slot = c.args.slot }) c.each.place c.requires.there (sym c.each-test.ensures) c.each.invariant.1).1
