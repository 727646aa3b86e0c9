use Rattle.transformers.specs.Keeps.{KeepsRelation}
use Rattle.transformers.proofs.First.{each_more}
use Rattle.transformers.proofs.bank.store.Goals as goal

pub returns-clause-keep : goal.returns-clause-keep
returns-clause-keep g c =
    record { each = each_more (λ s. KeepsRelation g.R.Relation.holds g.R.Relation.takes s) _ _ _ c.in_ok-push.ensures.items c.requires.all.each c.requires.one }
