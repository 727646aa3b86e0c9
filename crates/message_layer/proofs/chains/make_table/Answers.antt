use Rattle.std.proofs.Common.{arith}
use Rattle.message_layer.proofs.Following.{table-grown}
use Rattle.message_layer.proofs.chains.make_table.Goals as goal

pub returns-in_ok-resize-clause-same : goal.returns-in_ok-resize-clause-same
returns-in_ok-resize-clause-same c = λ k.
    table-grown c.args.last.now.items _ 256 _ k c.in_ok-resize.ensures.items (omega (arith, c.len.ensures, c.if-len-lt-CHAINS.true))
