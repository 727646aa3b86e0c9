use Rattle.std.proofs.Common.{◌≡◌, ◌+◌, ◌*◌, ◌-◌, ℕ, List, [], true, Some, is_some}
use Rattle.serde_json.specs.Data.{Data, Members, no_members}
use Rattle.serde_json.specs.Find.{get_member}
use Rattle.transformers.specs.Item.{item_at, many_at, next_item, next_member}
use Rattle.transformers.proofs.Passing.{Leads}
use Rattle.transformers.proofs.taken.+behind.Given as goal

abbrev pub decreases-behind : goal.decreases-behind
decreases-behind l = 4 * l.levels + 1

abbrev pub decreases-behind_head : goal.decreases-behind_head
decreases-behind_head l = 4 * l.levels

abbrev pub decreases-behind_items : goal.decreases-behind_items
decreases-behind_items l = 4 * l.levels + 2

abbrev pub decreases-is_among : goal.decreases-is_among
decreases-is_among l = 4 * l.levels + 2

abbrev pub decreases-behind_members : goal.decreases-behind_members
decreases-behind_members l = 4 * l.levels + 3

abbrev pub invariant-behind_items-each : goal.invariant-behind_items-each
invariant-behind_items-each l =
    let one = next_item (item_at l.levels) in
    (found : List Data) × Leads l.compared (many_at one (l.count - l.counter) found l.rest) (many_at one l.count [] l.bytes)

abbrev pub invariant-behind_members-each : goal.invariant-behind_members-each
invariant-behind_members-each l =
    let one = next_member (item_at l.levels) in
    (found : Members) × Leads l.compared (many_at one (l.count - l.seen) found l.rest) (many_at one l.count no_members l.bytes)
    × (l.compared ≡ true → many_at one l.seen no_members l.bytes ≡ Some (found, l.rest))

abbrev pub invariant-is_among-each : goal.invariant-is_among-each
invariant-is_among-each l =
    let one = next_member (item_at l.levels) in
    (x : Members × List ℕ) → many_at one l.count no_members l.bytes ≡ Some x
    → (all : Members) × (many_at one (l.count - l.counter) all l.rest ≡ Some x) × (is_some (get_member l.name all) ≡ l.found)
