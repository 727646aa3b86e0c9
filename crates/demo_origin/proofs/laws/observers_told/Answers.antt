use Rattle.demo_origin.proofs.Watching.{observers_told}
use Rattle.demo_origin.proofs.laws.observers_told.Goals as goal

pub returns : goal.returns
returns c = observers_told
