use Rattle.coap_codec.proofs.Again.{message_again}
use Rattle.coap_codec.proofs.Appends.{encodable_spelled}
use Rattle.coap_codec.proofs.laws.encoded_is_read.Goals as goal

pub returns : goal.returns
returns c = λ m can range. let s = encodable_spelled m can range in (s.0, s.1, message_again m s.0 s.1)
