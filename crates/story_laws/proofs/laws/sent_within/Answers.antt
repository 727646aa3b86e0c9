use Rattle.story_laws.proofs.Sending.{sent-within}
use Rattle.story_laws.proofs.laws.sent_within.Goals as goal

pub returns : goal.returns
returns c = sent-within
