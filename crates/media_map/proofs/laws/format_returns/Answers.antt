use Rattle.media_map.proofs.Returning.{returns_all}
use Rattle.media_map.proofs.laws.format_returns.Goals as goal

pub returns : goal.returns
returns c = λ policy format small pass. returns_all policy format small pass
