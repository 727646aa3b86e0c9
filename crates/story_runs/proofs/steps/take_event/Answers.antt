-- The input is what the event says.
use Rattle.std.proofs.Common.{◌≡◌}
use Rattle.gateway_model.specs.declared.input.Input.{Input}
use Rattle.story_runs.specs.Steps.{TakesEvent}
use Rattle.three_parties.specs.Scenes.{TakesTurn}
use Rattle.three_parties.specs.Stories.{scene}
use Rattle.three_parties.specs.declared.turn.Turn.TheVariants as T
use Rattle.three_parties.proofs.Running.{turn-rules}
use Rattle.story_runs.proofs.Taking.{on-ok}
use Rattle.story_runs.proofs.steps.take_event.Goals as goal

pub returns-clause-takes : goal.returns-clause-takes
returns-clause-takes g c =
    let holds = g.R.Relation.holds in
    let takes = g.R.Relation.takes in
    let R = g.H.Behaviour.relation in
    let old = scene c.args.stage.now in
    let new = scene c.take.new.self in
    on-ok (TakesTurn holds takes R (T.Proxy c.input_of.result) old new)
    (TakesEvent holds takes R c.args.when.moment c.args.when.word c.args.event.now old new)
    (λ h. record { input = c.input_of.result; is = c.input_of.ensures; takes_it = h })
    c.take.result c.take.ensures.takes

pub returns-clause-rules : goal.returns-clause-rules
returns-clause-rules g c =
    let holds = g.R.Relation.holds in
    let takes = g.R.Relation.takes in
    let R = g.H.Behaviour.relation in
    let old = scene c.args.stage.now in
    let new = scene c.take.new.self in
    on-ok (TakesTurn holds takes R (T.Proxy c.input_of.result) old new) (new.world.rules ≡ old.world.rules)
    (turn-rules holds takes R (T.Proxy c.input_of.result) old new)
    c.take.result c.take.ensures.takes
