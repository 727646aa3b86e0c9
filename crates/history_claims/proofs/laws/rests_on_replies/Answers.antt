use Rattle.history_claims.proofs.Resting.{rests-on-replies}
use Rattle.history_claims.proofs.laws.rests_on_replies.Goals as goal

pub returns : goal.returns
returns c = rests-on-replies
