use Rattle.std.proofs.Common.{arith}
use Rattle.std.proofs.lemmas.Grind.{common_steps}
use Rattle.coap_codec.proofs.options.is_critical.Goals as goal

pub returns : goal.returns
returns c = grind (arith, common_steps)
