use Rattle.std.proofs.Common.{◌∙◌, sym}
use Rattle.message_layer.proofs.Rising.{count-used}
use Rattle.message_layer.proofs.mids.count_in_use.Goals as goal

pub returns : goal.returns
returns c =
    (rw c.first_used.ensures at c.count_since.ensures.all)
    ∙ sym (count-used c.args.moment c.args.moments.now.items)
