use Rattle.std.proofs.Common.{sym, arith}
use Rattle.resp_cache.proofs.Naming.{end-is, one-further}
use Rattle.resp_cache.proofs.names.end_before.Goals as goal

pub each-smaller : goal.each-smaller
each-smaller c =
    let h = one-further c.args.rank c.args.names.now c.each.end (sym c.each-test.ensures) c.each.invariant.2 in
    let lt = h.0 in
    omega (arith, lt)

pub returns-clause-end : goal.returns-clause-end
returns-clause-end c = end-is c.args.rank c.args.names.now c.each.end c.requires.order c.each.invariant.1 (sym c.each-test.ensures) c.each.invariant.2
