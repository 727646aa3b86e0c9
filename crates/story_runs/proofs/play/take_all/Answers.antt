-- Each step is taken after those before it.
use Rattle.std.proofs.Common.{refl, subst, ◌∙◌}
use Rattle.three_parties.specs.Stories.{scene}
use Rattle.story_runs.specs.Steps.{TakesStep}
use Rattle.story_runs.specs.declared.book.Step.{Step}
use Rattle.story_runs.proofs.Taking.{step-rules, steps-next}
use Rattle.story_runs.proofs.play.take_all.Goals as goal

pub each-init : goal.each-init
each-init g c = record { taken = refl; rules = refl; sound = c.requires.sound }

pub each-preserved : goal.each-preserved
each-preserved g c =
    let holds = g.R.Relation.holds in
    let takes = g.R.Relation.takes in
    let R = g.H.Behaviour.relation in
    let before = c.each.invariant in
    let was = scene c.each.stage in
    let is = scene c.take_step.new.stage in
    let taken = c.in-Ok.ensures.takes in
    let S : Step → Type 0 = λ x. TakesStep holds takes R x was is in
    record {
      taken = steps-next holds takes R c.args.steps.now c.each.step-index c.step-item.result (scene c.args.stage.now) was is
          c.each-test.true before.taken (subst S c.step-item.is taken);
      rules = step-rules holds takes R c.step-item.result was is taken ∙ before.rules;
      sound = c.take_step.ensures.sound;
    }
