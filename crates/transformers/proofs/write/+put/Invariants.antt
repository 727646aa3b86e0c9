use Rattle.std.proofs.Common.{◌≡◌, ◌+◌, ◌*◌, Some, is_some, drop, length}
use Rattle.json.specs.Value.{items_view}
use Rattle.serde_json.specs.Data.{Items, Members}
use Rattle.serde_json.specs.Read.{of_items}
use Rattle.transformers.specs.Puts.{ArePlaced, HasKeys}
use Rattle.transformers.proofs.Placing.{MembersLeft}
use Rattle.transformers.proofs.Putting.{ItemsLeft}
use Rattle.transformers.proofs.write.+put.Given as goal

abbrev pub decreases-put : goal.decreases-put
decreases-put l = 4 * l.levels

abbrev pub decreases-put_member : goal.decreases-put_member
decreases-put_member l = 4 * l.levels + 1

abbrev pub decreases-put_items : goal.decreases-put_items
decreases-put_items l = 4 * l.levels + 2

abbrev pub decreases-put_placed : goal.decreases-put_placed
decreases-put_placed l = 4 * l.levels + 2

abbrev pub decreases-put_members : goal.decreases-put_members
decreases-put_members l = 4 * l.levels + 3

abbrev pub invariant-put_items-each : goal.invariant-put_items-each
invariant-put_items-each l =
    (is_some (of_items (items_view l.item-items)) ≡ is_some (of_items (items_view (drop l.item-index l.item-items))))
    × ((all : Items) → of_items (items_view l.item-items) ≡ Some all → ItemsLeft l.levels (drop l.item-index l.item-items) all l.initial.out.items l.out.items)

abbrev pub decreases-put_placed-each : goal.decreases-put_placed-each
decreases-put_placed-each l = length l.left

abbrev pub invariant-put_placed-each : goal.invariant-put_placed-each
invariant-put_placed-each l =
    (ms : Members) → ArePlaced l.members.items l.places.entries ms → HasKeys ms → MembersLeft l.members.items l.levels l.left ms l.initial.out.items l.out.items
