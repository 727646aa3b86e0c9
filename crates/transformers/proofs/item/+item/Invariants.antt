use Rattle.std.proofs.Common.{◌+◌, ◌*◌, ◌-◌, []}
use Rattle.serde_json.specs.Data.{no_members}
use Rattle.transformers.specs.Item.{item_at, many_at, next_item, next_member}
use Rattle.transformers.proofs.Told.{ItemsSoFar, MembersSoFar}
use Rattle.transformers.proofs.item.+item.Given as goal

abbrev pub decreases-item : goal.decreases-item
decreases-item l = 4 * l.levels + 1

abbrev pub decreases-body : goal.decreases-body
decreases-body l = 4 * l.levels

abbrev pub decreases-items : goal.decreases-items
decreases-items l = 4 * l.levels + 2

abbrev pub decreases-member : goal.decreases-member
decreases-member l = 4 * l.levels + 2

abbrev pub decreases-only_member : goal.decreases-only_member
decreases-only_member l = 4 * l.levels + 2

abbrev pub decreases-members : goal.decreases-members
decreases-members l = 4 * l.levels + 3

abbrev pub invariant-items-each : goal.invariant-items-each
invariant-items-each l =
    ItemsSoFar (item_at l.levels) (l.count - l.i) l.i l.rest (many_at (next_item (item_at l.levels)) l.count [] l.bytes) l.fn.out.items l.out.items

abbrev pub invariant-members-each : goal.invariant-members-each
invariant-members-each l =
    MembersSoFar (item_at l.levels) (l.count - l.counter) l.rest (many_at (next_member (item_at l.levels)) l.count no_members l.bytes) l.found.entries
