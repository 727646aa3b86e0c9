use Rattle.blockwise.proofs.Sent.{succeeds}
use Rattle.blockwise.proofs.laws.uploads_succeed.Goals as goal

pub returns : goal.returns
returns c = succeeds
