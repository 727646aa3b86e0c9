use Rattle.coap_codec.proofs.ByteRanges.{bytes_from_all}
use Rattle.coap_codec.proofs.FaultsFound.{message_fails}
use Rattle.coap_codec.proofs.FaultsOnly.{fault_again}
use Rattle.coap_codec.proofs.laws.fault_is_read.Goals as goal

pub returns-clause-found : goal.returns-clause-found
returns-clause-found c = λ f bytes fits e. message_fails bytes f (bytes_from_all bytes fits) e

pub returns-clause-only : goal.returns-clause-only
returns-clause-only c = λ f bytes s. fault_again bytes f s
