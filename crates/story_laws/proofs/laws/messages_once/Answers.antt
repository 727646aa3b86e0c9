use Rattle.story_laws.proofs.Executing.{messages-once}
use Rattle.story_laws.proofs.laws.messages_once.Goals as goal

pub returns : goal.returns
returns g c = messages-once g.H.Behaviour.relation
