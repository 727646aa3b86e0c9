use Rattle.std.proofs.Common.{rules}
use Rattle.route_bank.proofs.kind.up.Goals as goal

pub returns-then-eq : goal.returns-then-eq
returns-then-eq c = search rules
