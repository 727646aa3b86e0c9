use Rattle.std.proofs.Common.{rules}
use Rattle.cache_key.proofs.place.Place.of.Goals as goal

pub returns : goal.returns
returns c = search rules
