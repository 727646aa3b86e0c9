use Rattle.std.proofs.Common.{refl, sym}
use Rattle.exchange_core.proofs.Ordered.{pend-only, pend-nowhere}
use Rattle.exchange_core.proofs.noting.set_pending.Goals as goal

pub returns-in-Some : goal.returns-in-Some
returns-in-Some c = sym (pend-only c.args.id c.args.pending c.args.conns.now c.in-Some.place _ c.in-Some.ensures.some)

pub returns-in_default : goal.returns-in_default
returns-in_default c = sym (pend-nowhere c.args.id c.args.pending c.args.conns.now (c.in_default.ensures.none refl))
