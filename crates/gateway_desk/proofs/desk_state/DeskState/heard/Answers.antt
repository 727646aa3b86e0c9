use Rattle.std.proofs.Common.{rules}
use Rattle.gateway_desk.proofs.desk_state.DeskState.heard.Goals as goal

pub returns-clause-heard : goal.returns-clause-heard
returns-clause-heard g c = search rules
