use Rattle.exchange_model.proofs.CallerLemmas.{kept-stands}
use Rattle.exchange_core.proofs.core_state.Core.journal.Goals as goal

pub returns-clause-stands : goal.returns-clause-stands
returns-clause-stands g c = rw (← c.self.view_is) (kept-stands _ c.self.invariant.kept.kept)

pub returns-clause-kept : goal.returns-clause-kept
returns-clause-kept g c = rw (← c.self.view_is) c.self.invariant.kept
