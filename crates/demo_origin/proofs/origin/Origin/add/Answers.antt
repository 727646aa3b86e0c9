use Rattle.std.proofs.Common.{arith}
use Rattle.demo_origin.specs.Keeps.{KeepsRelation}
use Rattle.demo_origin.proofs.Each.{each_more, longer}
use Rattle.demo_origin.proofs.origin.Origin.add.Goals as goal

pub returns-clause-sound : goal.returns-clause-sound
returns-clause-sound g c =
    let a = longer _ _ _ c.in_ok-push.ensures.items in
    let b = longer _ _ _ c.in_ok-push-2.ensures.items in
    record {
      keep = record {
        each = each_more (λ s. KeepsRelation g.H.Behaviour.relation s) _ _ _
            c.in_ok-push-2.ensures.items c.requires.sound.keep.each c.requires.keeps;
      };
      one_each = omega (arith, a, b, c.requires.sound.one_each);
    }
