-- The bytes spell one message at most.
use Rattle.std.proofs.Common.{◌≡◌, true, false, sym, ◌∙◌}
use Rattle.gateway_desk.proofs.shown.spelled.Goals as goal

pub returns-else-eq : goal.returns-else-eq
returns-else-eq c = λ m s.
    let memory = c.in-Err.ensures.only m s in
    let wrong : false ≡ true = sym c.if-eq.false ∙ (rw (memory) at c.eq.ensures) in absurd cc
