use Rattle.std.proofs.Common.{◌≡◌, drop, is_some}
use Rattle.json.specs.Value.{items_view, members_view}
use Rattle.serde_json.specs.Data.{Members}
use Rattle.serde_json.specs.Read.{of_items, of_members}
use Rattle.transformers.proofs.readable.+is_readable.Given as goal

abbrev pub invariant-are_readable-each : goal.invariant-are_readable-each
invariant-are_readable-each l =
    is_some (of_items (items_view l.item-items)) ≡ is_some (of_items (items_view (drop l.item-index l.item-items)))

abbrev pub invariant-members_are_readable-each : goal.invariant-members_are_readable-each
invariant-members_are_readable-each l =
    (found : Members) → (later : Members) × (is_some (of_members (members_view l.member-items) found) ≡ is_some (of_members (members_view (drop l.member-index l.member-items)) later))
