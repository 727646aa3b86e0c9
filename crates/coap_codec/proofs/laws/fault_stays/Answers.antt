use Rattle.coap_codec.proofs.FaultsStay as law
use Rattle.coap_codec.proofs.laws.fault_stays.Goals as goal

pub returns : goal.returns
returns c = λ f bytes more a b d s. law.fault_stays bytes more f a b d s
