use Rattle.exchange_core.proofs.Read.{whole-last}
use Rattle.exchange_core.proofs.rotating.fn.keep_heard.retain.Goals as goal

pub is_as_heard-requires : goal.is_as_heard-requires
is_as_heard-requires g c = whole-last _ _ c.requires c.args.pair.now.stored.list
