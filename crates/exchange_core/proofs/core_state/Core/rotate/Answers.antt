use Rattle.exchange_core.specs.States.{state_of}
use Rattle.exchange_core.proofs.Turning.{if-ok, stands-given}
use Rattle.exchange_core.proofs.core_state.Core.rotate.Goals as goal

pub returns-clause-stands : goal.returns-clause-stands
returns-clause-stands g c =
    if-ok c.rotate.result
    (λ given turned. stands-given c.now-moment.result (state_of c.self.inside.state) _ given.entries c.self.invariant.kept.kept turned.is)
    c.rotate.ensures.turned
