use Rattle.blockwise.proofs.Sent.{answered}
use Rattle.blockwise.proofs.laws.uploads_answered.Goals as goal

pub returns : goal.returns
returns c = answered
