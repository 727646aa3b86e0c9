use Rattle.std.proofs.Common.{arith}
use Rattle.transformers.proofs.Told.{told_negative}
use Rattle.transformers.proofs.item.put_below_zero.Goals as goal

pub returns-clause-ok : goal.returns-clause-ok
returns-clause-ok c = told_negative c.args.argument c.args.bytes.now _ _ (omega arith) c.in_ok-put_negative.ensures
