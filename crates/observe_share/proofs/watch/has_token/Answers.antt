use Rattle.std.proofs.Common.{rules}
use Rattle.observe_share.proofs.watch.has_token.Goals as goal

pub returns : goal.returns
returns c = search rules
