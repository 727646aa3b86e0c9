use Rattle.cache_key.proofs.Matching.{keys_match}
use Rattle.cache_key.proofs.laws.keys_match_requests.Goals as goal

pub returns : goal.returns
returns c = keys_match
