use Rattle.history_claims.proofs.Apart.{answer-once, in-order}
use Rattle.history_claims.proofs.Turns.{answers-an-ask, asked-in-turn}
use Rattle.history_claims.proofs.laws.answered_in_order.Goals as goal

pub returns-clause-once : goal.returns-clause-once
returns-clause-once c = answer-once

pub returns-clause-in_order : goal.returns-clause-in_order
returns-clause-in_order c = in-order

pub returns-clause-asked : goal.returns-clause-asked
returns-clause-asked c = answers-an-ask

pub returns-clause-in_turn : goal.returns-clause-in_turn
returns-clause-in_turn c = asked-in-turn
