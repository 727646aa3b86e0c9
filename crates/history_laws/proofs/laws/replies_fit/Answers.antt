use Rattle.history_laws.proofs.Carrying.{carried-fit}
use Rattle.history_laws.proofs.Replies.{replies-fit}
use Rattle.history_laws.proofs.laws.replies_fit.Goals as goal

pub returns-clause-replies : goal.returns-clause-replies
returns-clause-replies c = replies-fit

pub returns-clause-carried : goal.returns-clause-carried
returns-clause-carried c = carried-fit
