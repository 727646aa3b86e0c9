use Rattle.demo_origin.specs.Keeps.{KeepsRelation}
use Rattle.demo_origin.proofs.Each.{each_more}
use Rattle.demo_origin.proofs.resource.install.Goals as goal

pub returns-clause-keep : goal.returns-clause-keep
returns-clause-keep g c = record {
  each = each_more (λ r. KeepsRelation g.H.Behaviour.relation r.handler) _ _ _
      c.in_ok-push.ensures.items c.requires.all.each c.requires.one;
}
