use Rattle.media_map.specs.Accepting.{accept_at, elements}
use Rattle.media_map.proofs.Best.{wanted_is_best}
use Rattle.media_map.proofs.laws.best_is_wanted.Goals as goal

pub returns : goal.returns
unfolding accept_at
returns c = λ policy routes value w e. wanted_is_best policy routes (elements value) w e
