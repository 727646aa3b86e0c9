use Rattle.demo_origin.proofs.Saying.{only_observers_told}
use Rattle.demo_origin.proofs.laws.only_observers_told.Goals as goal

pub returns : goal.returns
returns c = only_observers_told
