use Rattle.transformers.proofs.Outputs.{in_profile}
use Rattle.transformers.proofs.laws.taken_in_profile.Goals as goal

pub returns : goal.returns
returns c = in_profile
