use Rattle.std.proofs.Common.{◌≡◌, ◌∷◌, ◌++◌, ◌∙◌, [], List, ap, arith, append-nil, length, length-append, take, sym}
use Rattle.std.specs.List.{list_any}
use Rattle.limits.specs.declared.TheConstants.{MAX_STORED}
use Rattle.resp_cache.specs.Stores.{is_of}
use Rattle.resp_cache.specs.Tables.{pairs_of}
use Rattle.resp_cache.specs.declared.pair.Pair.{Pair}
use Rattle.resp_cache.proofs.Walking.{grown, left_behind, nothing, stored_none}
use Rattle.resp_cache.proofs.filling.table_of.Goals as goal

pub each-init : goal.each-init
each-init c =
    let none = stored_none c.new.result.items c.new-2.result.items c.new-3.result.items c.new.ensures.items c.new-2.ensures.items c.new-3.ensures.items in
    (ap (λ (ps : List Pair). c.args.pairs.items ++ ps) none.1 ∙ append-nil c.args.pairs.items, none.0)

pub make_room-requires : goal.make_room-requires
make_room-requires c = c.each.invariant.1

pub put_first-requires-clause-other : goal.put_first-requires-clause-other
put_first-requires-clause-other c =
    ap (list_any (is_of c.in-Some.pair.key)) c.make_room.ensures.pairs
    ∙ left_behind c.args.pairs.items c.each.pairs.items c.pop.new.self.items c.in-Some.pair (pairs_of c.each.table) c.requires.apart c.in-Some.ensures.items c.each.invariant.0

pub each-smaller-in_ok-make_room : goal.each-smaller-in_ok-make_room
each-smaller-in_ok-make_room c = omega (arith, ap length c.in-Some.ensures.items, length-append c.pop.new.self.items (c.in-Some.pair ∷ []))

pub each-preserved-in_ok-make_room : goal.each-preserved-in_ok-make_room
each-preserved-in_ok-make_room c = (
  grown c.args.pairs.items c.each.pairs.items c.pop.new.self.items c.in-Some.pair (pairs_of c.each.table) (pairs_of c.put_first.new.table) c.requires.few c.in-Some.ensures.items c.each.invariant.0
      (c.put_first.ensures.kept ∙ ap (λ (ps : List Pair). take MAX_STORED (c.in-Some.pair ∷ ps)) c.make_room.ensures.pairs),
  c.put_first.ensures.table,
)

pub each-smaller : goal.each-smaller
each-smaller c = omega (arith, ap length c.in-Some.ensures.items, length-append c.pop.new.self.items (c.in-Some.pair ∷ []))

pub each-preserved : goal.each-preserved
each-preserved c = (
  grown c.args.pairs.items c.each.pairs.items c.pop.new.self.items c.in-Some.pair (pairs_of c.each.table) (pairs_of c.put_first.new.table) c.requires.few c.in-Some.ensures.items c.each.invariant.0
      (c.put_first.ensures.kept ∙ ap (λ (ps : List Pair). take MAX_STORED (c.in-Some.pair ∷ ps)) c.make_room.ensures.pairs),
  c.put_first.ensures.table,
)

pub returns-clause-pairs : goal.returns-clause-pairs
returns-clause-pairs c =
    let none : c.each.pairs.items ≡ [] = nothing c.each.pairs.items (omega (arith, c.in_default.ensures.cases.0, c.each.pairs.ok)) in
    ap (λ (xs : List Pair). xs ++ pairs_of c.each.table) (sym none) ∙ c.each.invariant.0

pub returns-clause-table : goal.returns-clause-table
returns-clause-table c = c.each.invariant.1
