use Rattle.coap_codec.proofs.ByteRanges.{bytes_from_all}
use Rattle.coap_codec.proofs.Either as law
use Rattle.coap_codec.proofs.laws.spelled_or_faulty.Goals as goal

pub returns-clause-either : goal.returns-clause-either
returns-clause-either c = λ bytes fits. law.either bytes (bytes_from_all bytes fits)

pub returns-clause-not_both : goal.returns-clause-not_both
returns-clause-not_both c = law.not_both

pub returns-clause-one_fault : goal.returns-clause-one_fault
returns-clause-one_fault c = law.one_fault
