use Rattle.cache_key.proofs.Ordered.{keys_apart}
use Rattle.cache_key.proofs.laws.keys_in_order.Goals as goal

pub returns : goal.returns
returns c = keys_apart
