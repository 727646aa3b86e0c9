use Rattle.std.proofs.Common.{arith}
use Rattle.message_layer.specs.Values.{shown}
use Rattle.message_layer.proofs.After.{heeded-turned}
use Rattle.message_layer.proofs.more.check_more.Goals as goal

pub waiting_after-requires : goal.waiting_after-requires
waiting_after-requires c =
    let i = heeded-turned c.args.moment (shown c.args.s.now) c.args.x.now c.requires.ready in
    omega (arith, i.count, c.deref.ensures.len)
