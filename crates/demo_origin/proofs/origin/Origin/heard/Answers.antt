use Rattle.demo_origin.proofs.First.{first_of}
use Rattle.demo_origin.proofs.origin.Origin.heard.Goals as goal

pub returns-clause-first : goal.returns-clause-first
returns-clause-first g c = first_of g.H.Behaviour.relation _ _ _ _ _ _ c.hear.ensures.ok
