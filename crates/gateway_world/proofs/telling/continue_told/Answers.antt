-- The bytes are those of the text.
use Rattle.std.proofs.Common.{rules}
use Rattle.gateway_world.proofs.telling.continue_told.Goals as goal

pub returns : goal.returns
returns c = search rules
