-- As many connections passed by as were opened.
use Rattle.std.proofs.Common.{ℕ, ◌≡◌}
use Rattle.gateway_desk.specs.Turning.{PassBy}
use Rattle.gateway_desk.proofs.shop.Shop.fill_up.Given as goal

abbrev pub invariant-each : goal.invariant-each
invariant-each g l =
    ((n : ℕ) × (n ≡ l.counter) × PassBy n l.moment l.initial.self.core l.self.core)
    × (l.self.left ≡ l.initial.self.left)
