use Rattle.std.proofs.Common.{rules}
use Rattle.coap_codec.proofs.reading.payload_of.Goals as goal

pub returns-in-len1 : goal.returns-in-len1
returns-in-len1 c = search rules
