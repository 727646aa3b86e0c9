use Rattle.resp_cache.proofs.Lasting.{last_used_stay}
use Rattle.resp_cache.proofs.laws.the_last_used_stay.Goals as goal

pub returns : goal.returns
returns c = last_used_stay
