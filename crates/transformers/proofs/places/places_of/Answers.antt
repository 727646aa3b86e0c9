use Rattle.std.proofs.Common.{◌+◌, drop, subst, arith}
use Rattle.transformers.proofs.Placing.{PlacedSoFar, json_at_is, places_begun, one_placed, all_placed}
use Rattle.transformers.proofs.Putting.{drop_step}
use Rattle.transformers.proofs.Standing.{drop_end}
use Rattle.transformers.proofs.places.places_of.Goals as goal

pub each-init : goal.each-init
each-init c total is = places_begun c.args.members.now.items total _ c.new-places.ensures.empty is

pub each-preserved : goal.each-preserved
each-preserved c total is =
    let all = c.args.members.now.items in
    let i = c.each.i in
    let e = c.index.result.now in
    let step = drop_step i all e (omega arith) c.index.ensures in
    let so_far = subst (λ (left : _). PlacedSoFar all left total c.each.places.entries) step (c.each.invariant total is) in
    one_placed all (drop (i + 1) all) e i total _ _ so_far (json_at_is all i e (omega arith) c.index.ensures) c.in_ok-insert.ensures.entries

pub returns-clause-placed : goal.returns-clause-placed
returns-clause-placed c total is =
    let all = c.args.members.now.items in
    let none = drop_end c.each.i all (omega arith) in
    all_placed all total _ (subst (λ (left : _). PlacedSoFar all left total c.each.places.entries) none (c.each.invariant total is))
