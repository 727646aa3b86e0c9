use Rattle.std.proofs.Common.{rules}
use Rattle.coap_codec.proofs.token.TokenPartialEq.eq.Goals as goal

pub returns : goal.returns
returns c = search rules
