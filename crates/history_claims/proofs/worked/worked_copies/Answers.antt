use Rattle.history_claims.proofs.Copied.{answered-anew, repeated, sent-again}
use Rattle.history_claims.proofs.worked.worked_copies.Goals as goal

pub returns-clause-answered : goal.returns-clause-answered
returns-clause-answered c = answered-anew

pub returns-clause-repeated : goal.returns-clause-repeated
returns-clause-repeated c = repeated

pub returns-clause-sent_again : goal.returns-clause-sent_again
returns-clause-sent_again c = sent-again
