use Rattle.std.proofs.Common.{ℕ, List, min, ap, ◌∙◌}
use Rattle.std.specs.List.{reduce}
use Rattle.exchange_core.proofs.Takes.{asks-same}
use Rattle.exchange_core.proofs.core_state.Core.first_answered.Goals as goal

pub returns : goal.returns
returns g c =
    rw (← c.self.view_is) (rw (c.as_slice.ensures.value) at c.least_ask.ensures ∙ ap (λ (ks : List ℕ). reduce min ks) (asks-same c.self.inside.state.answers.items))
