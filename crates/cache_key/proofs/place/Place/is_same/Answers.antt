use Rattle.std.proofs.Common.{rules}
use Rattle.cache_key.proofs.place.Place.is_same.Goals as goal

pub returns-then-is_same_peer : goal.returns-then-is_same_peer
returns-then-is_same_peer c = search rules
