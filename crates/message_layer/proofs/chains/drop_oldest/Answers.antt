use Rattle.message_layer.proofs.Following.{chained-rest}
use Rattle.message_layer.proofs.chains.drop_oldest.Goals as goal

pub returns-clause-chained : goal.returns-clause-chained
returns-clause-chained c =
    rw (c.drop_first.ensures.items, c.drop_first-2.ensures.items) (chained-rest _ _ _ _ c.requires.chained c.requires.some)
