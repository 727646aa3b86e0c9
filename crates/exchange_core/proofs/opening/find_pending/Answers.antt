use Rattle.std.proofs.Common.{refl}
use Rattle.exchange_core.proofs.Ordered.{has-none, has-only}
use Rattle.exchange_core.proofs.opening.find_pending.Goals as goal

pub returns-clause-some : goal.returns-clause-some
returns-clause-some c = has-only c.args.id c.args.conns.now c.in_ok-place.place _ c.in_ok-place.ensures.some

pub returns-in_err-place-clause-none : goal.returns-in_err-place-clause-none
returns-in_err-place-clause-none c = λ is. has-none c.args.id c.args.conns.now (c.in_err-place.ensures.none refl)
