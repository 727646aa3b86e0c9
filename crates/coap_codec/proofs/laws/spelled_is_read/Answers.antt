use Rattle.coap_codec.proofs.Again.{message_again}
use Rattle.coap_codec.proofs.ByteRanges.{bytes_from_all}
use Rattle.coap_codec.proofs.Takes.{message_takes}
use Rattle.coap_codec.proofs.laws.spelled_is_read.Goals as goal

pub returns-clause-found : goal.returns-clause-found
returns-clause-found c = λ m bytes fits e. message_takes bytes m (bytes_from_all bytes fits) e

pub returns-clause-only : goal.returns-clause-only
returns-clause-only c = message_again
