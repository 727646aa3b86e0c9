use Rattle.std.proofs.Common.{◌∙◌, sym}
use Rattle.message_layer.proofs.Rising.{used-since}
use Rattle.message_layer.proofs.mids.drop_any.Goals as goal

pub returns-clause-items : goal.returns-clause-items
returns-clause-items c =
    (rw c.first_used.ensures at c.drop_before.ensures.items)
    ∙ sym (used-since c.args.moment c.args.moments.now.items)
