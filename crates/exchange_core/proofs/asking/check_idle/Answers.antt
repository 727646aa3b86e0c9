use Rattle.std.proofs.Common.{Option, ℕ, refl, subst}
use Rattle.exchange_model.specs.Resting.{HasConn}
use Rattle.exchange_core.proofs.Ordered.{has-only, has-none}
use Rattle.exchange_core.proofs.asking.check_idle.Goals as goal

pub returns-in-None-pending-clause-ok : goal.returns-in-None-pending-clause-ok
returns-in-None-pending-clause-ok c =
    subst (λ (p : Option ℕ). HasConn c.args.conns.now c.args.id p) c.in-None-pending.is (has-only c.args.id c.args.conns.now c.in-Some.place _ c.in-Some.ensures.some)

pub returns-in-Some-pending-clause-pending : goal.returns-in-Some-pending-clause-pending
returns-in-Some-pending-clause-pending c = λ e.
    (_, subst (λ (p : Option ℕ). HasConn c.args.conns.now c.args.id p) c.in-Some-pending.is (has-only c.args.id c.args.conns.now c.in-Some.place _ c.in-Some.ensures.some))

pub returns-in-None-clause-unknown : goal.returns-in-None-clause-unknown
returns-in-None-clause-unknown c = λ e. has-none c.args.id c.args.conns.now (c.in-None.ensures.none refl)
