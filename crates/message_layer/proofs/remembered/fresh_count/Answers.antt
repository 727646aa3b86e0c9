use Rattle.std.proofs.Common.{◌∙◌, sym}
use Rattle.message_layer.proofs.Ordering.{count-fresh}
use Rattle.message_layer.proofs.remembered.fresh_count.Goals as goal

pub returns : goal.returns
returns c =
    (rw c.first_fresh.ensures at c.count_since.ensures.all)
    ∙ sym (count-fresh c.args.moment c.args.messages.now.items)
