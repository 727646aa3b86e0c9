use Rattle.cache_key.proofs.Ordered.{places_apart}
use Rattle.cache_key.proofs.laws.places_in_order.Goals as goal

pub returns : goal.returns
returns c = places_apart
