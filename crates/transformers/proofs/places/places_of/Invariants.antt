use Rattle.std.proofs.Common.{◌≡◌, Some, drop}
use Rattle.json.specs.Value.{members_view}
use Rattle.serde_json.specs.Data.{Members, no_members}
use Rattle.serde_json.specs.Read.{of_members}
use Rattle.transformers.proofs.Placing.{PlacedSoFar}
use Rattle.transformers.proofs.places.places_of.Given as goal

abbrev pub invariant-each : goal.invariant-each
invariant-each l =
    (total : Members) → of_members (members_view l.members.items) no_members ≡ Some total → PlacedSoFar l.members.items (drop l.i l.members.items) total l.places.entries
