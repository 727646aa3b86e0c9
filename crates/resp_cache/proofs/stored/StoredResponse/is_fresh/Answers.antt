use Rattle.std.proofs.Common.{rules}
use Rattle.resp_cache.proofs.stored.StoredResponse.is_fresh.Goals as goal

pub returns-else-moment-heard : goal.returns-else-moment-heard
returns-else-moment-heard c = search rules
