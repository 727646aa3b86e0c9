use Rattle.std.proofs.Common.{rules}
use Rattle.coap_codec.proofs.recognition.is_forwardable.Goals as goal

pub returns : goal.returns
returns c = search rules
