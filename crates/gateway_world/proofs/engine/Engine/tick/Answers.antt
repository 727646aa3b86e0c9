-- Time goes on, and then what that leads to is given out; or memory is refused, and nothing is done.
use Rattle.std.proofs.Common.{refl, ap}
use Rattle.exchange_core.specs.Values.{CoreValue}
use Rattle.exchange_model.specs.Sealing.{ticks_in_room}
use Rattle.exchange_core.specs.Calls.{now}
use Rattle.gateway_model.specs.Acts.{Passes}
use Rattle.gateway_model.specs.Orders.{Delivers}
use Rattle.gateway_world.proofs.Acting.{steps-lead}
use Rattle.gateway_world.proofs.Answering.{ticked-served}
use Rattle.gateway_world.proofs.Growth.{ticked-grows, back-by, back-state, back-then}
use Rattle.gateway_world.proofs.engine.Engine.tick.Goals as goal

pub returns-in_ok-deliver-in-Ok-clause-leads : goal.returns-in_ok-deliver-in-Ok-clause-leads
returns-in_ok-deliver-in-Ok-clause-leads g c = λ taken.
    steps-lead _ _ Passes
    (ticks_in_room (now c.args.self.now.core.state.moment c.args.context.when.moment) c.args.self.now.core.state)
    Delivers c.args.self.now (record c.args.self.now { core = c.tick.new.self }) c.deliver.new.self c.args.outputs.now.items
    c.deliver.new.outputs.items (λ e. (e, refl, c.requires.drained.answers, c.in-Ok.ensures.kept)) c.in-Ok.ensures.ticks refl
    c.in_ok-deliver-in-Ok.ensures.leads

pub returns-in_ok-deliver-in-Ok-clause-back : goal.returns-in_ok-deliver-in-Ok-clause-back
returns-in_ok-deliver-in-Ok-clause-back g c =
    back-then c.args.self.now (record c.args.self.now { core = c.tick.new.self }) c.deliver.new.self
    (back-by c.args.self.now (record c.args.self.now { core = c.tick.new.self })
    (ticked-grows (now c.args.self.now.core.state.moment c.args.context.when.moment) c.args.self.now.core c.tick.new.self
    c.in-Ok.ensures.ticks) refl)
    c.deliver.ensures.back

pub returns-in_err-deliver-in-Ok-clause-back : goal.returns-in_err-deliver-in-Ok-clause-back
returns-in_err-deliver-in-Ok-clause-back g c =
    back-then c.args.self.now (record c.args.self.now { core = c.tick.new.self }) c.deliver.new.self
    (back-by c.args.self.now (record c.args.self.now { core = c.tick.new.self })
    (ticked-grows (now c.args.self.now.core.state.moment c.args.context.when.moment) c.args.self.now.core c.tick.new.self
    c.in-Ok.ensures.ticks) refl)
    c.deliver.ensures.back

pub deliver-requires-clause-served : goal.deliver-requires-clause-served
deliver-requires-clause-served g c =
    ticked-served (now c.args.self.now.core.state.moment c.args.context.when.moment) c.args.self.now.core c.tick.new.self
    c.requires.drained.answers c.in-Ok.ensures.ticks c.journal.ensures.kept.kept

pub returns-in-Err-clause-stays : goal.returns-in-Err-clause-stays
returns-in-Err-clause-stays g c = λ r. record {
  core = c.in-Err.ensures.memory;
  current = refl;
  marked = refl;
  outputs = refl;
}

pub returns-in-Err-clause-back : goal.returns-in-Err-clause-back
returns-in-Err-clause-back g c =
    back-state c.args.self.now (record c.args.self.now { core = c.tick.new.self })
    (ap (λ (v : CoreValue). v.state) c.in-Err.ensures.memory) refl
