use Rattle.std.proofs.Common.{arith}
use Rattle.coap_codec.proofs.Uints.{stays_small, reads_byte}
use Rattle.coap_codec.proofs.uint.uint_of.Goals as goal

pub overflow_mul-n : goal.overflow_mul-n
overflow_mul-n c = omega (arith, stays_small c.each.n c.each.b-index (omega arith) c.each.invariant.1)

pub each-preserved : goal.each-preserved
each-preserved c = rw c.from.ensures (reads_byte c.args.value.now c.each.b-index c.each.n (omega arith) (omega arith) c.each.invariant)
