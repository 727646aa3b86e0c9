use Rattle.std.proofs.Common.{◌∙◌, sym}
use Rattle.message_layer.proofs.Ordering.{fresh-since}
use Rattle.message_layer.proofs.remembered.drop_any.Goals as goal

pub returns-clause-messages : goal.returns-clause-messages
returns-clause-messages c =
    (rw c.first_fresh.ensures at c.drop_before.ensures.items)
    ∙ sym (fresh-since c.args.moment c.args.messages.now.items)
