use Rattle.std.proofs.Common.{arith, length}
use Rattle.coap_codec.proofs.Uints.{three_bytes}
use Rattle.coap_codec.proofs.block.block_of.Goals as goal

pub returns-clause-num : goal.returns-clause-num
returns-clause-num c = omega (arith, three_bytes (length c.args.value.now) c.uint_of-n.result (omega arith) c.uint_of-n.ensures.small)
