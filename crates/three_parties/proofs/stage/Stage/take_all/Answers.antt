-- Each turn is taken after those before it.
use Rattle.std.proofs.Common.{Err, refl, sym, ap, ◌∙◌}
use Rattle.gateway_model.specs.declared.input.Happening.TheVariants as H
use Rattle.three_parties.specs.Stories.{scene}
use Rattle.three_parties.specs.declared.turn.Turn.{Turn}
use Rattle.three_parties.specs.declared.turn.Turn.TheVariants as T
use Rattle.three_parties.proofs.Running.{refused-at, turn-given, turn-rules, turns-next}
use Rattle.three_parties.proofs.stage.Stage.take_all.Goals as goal

pub each-init : goal.each-init
each-init g c = record { taken = refl; rules = refl; given = refl; sound = c.requires.sound }

pub each-preserved : goal.each-preserved
each-preserved g c =
    let holds = g.R.Relation.holds in
    let takes = g.R.Relation.takes in
    let R = g.H.Behaviour.relation in
    let none : Turn = T.Proxy (record { moment = 0; word = 0; happening = H.Open }) in
    let before = c.each.invariant in
    record {
      taken = turns-next holds takes R c.args.turns.now c.each.turn-index none (scene c.args.self.now) (scene c.each.self) (scene c.take.new.self)
          c.each-test.true before.taken c.in_ok-take.ensures.takes;
      rules = turn-rules holds takes R _ (scene c.each.self) (scene c.take.new.self) c.in_ok-take.ensures.takes ∙ before.rules;
      given = turn-given holds takes R _ (scene c.each.self) (scene c.take.new.self) c.in_ok-take.ensures.takes ∙ before.given;
      sound = c.take.ensures.sound;
    }

pub returns-in_err-take-clause-full : goal.returns-in_err-take-clause-full
returns-in_err-take-clause-full g c = λ e.
    refused-at g.R.Relation.holds g.R.Relation.takes g.H.Behaviour.relation c.args.turns.now c.each.turn-index
    (T.Proxy (record { moment = 0; word = 0; happening = H.Open })) (scene c.args.self.now) (scene c.each.self) c.each-test.true
    c.each.invariant.taken (c.in_err-take.ensures.full (ap Err (sym (rw e at c.from_residual.ensures).1)))
