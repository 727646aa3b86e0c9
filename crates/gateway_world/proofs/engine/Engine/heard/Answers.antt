-- The datagram is heard, and then what that leads to is given out; or memory is refused, and nothing is done.
use Rattle.std.proofs.Common.{refl, ap}
use Rattle.exchange_core.specs.Values.{CoreValue}
use Rattle.exchange_core.specs.Calls.{now}
use Rattle.gateway_model.specs.Acts.{Hears}
use Rattle.gateway_model.specs.Orders.{Delivers}
use Rattle.gateway_model.specs.Emissions.{emissions}
use Rattle.gateway_world.specs.Leading.{served_of}
use Rattle.gateway_world.proofs.Acting.{begins-lead}
use Rattle.gateway_world.proofs.Answering.{heard-served}
use Rattle.gateway_world.proofs.Growth.{heard-grows, back-by, back-state, back-then}
use Rattle.gateway_world.proofs.engine.Engine.heard.Goals as goal

pub returns-in_ok-deliver-in-Ok-clause-leads : goal.returns-in_ok-deliver-in-Ok-clause-leads
returns-in_ok-deliver-in-Ok-clause-leads g c = λ taken.
    begins-lead _ c.args.context.when (Hears c.args.peer c.args.bytes.now) Delivers (served_of c.args.self.now)
    (served_of (record c.args.self.now { core = c.heard.new.self })) (served_of c.deliver.new.self) (emissions c.args.outputs.now.items)
    (emissions c.deliver.new.outputs.items)
    (c.in-Ok.ensures.heard, refl, refl, c.requires.drained.answers, c.in-Ok.ensures.kept) c.in_ok-deliver-in-Ok.ensures.leads

pub returns-in_ok-deliver-in-Ok-clause-back : goal.returns-in_ok-deliver-in-Ok-clause-back
returns-in_ok-deliver-in-Ok-clause-back g c =
    back-then c.args.self.now (record c.args.self.now { core = c.heard.new.self }) c.deliver.new.self
    (back-by c.args.self.now (record c.args.self.now { core = c.heard.new.self })
    (heard-grows (now c.args.self.now.core.state.moment c.args.context.when.moment) c.args.context.when.word c.args.peer c.args.bytes.now
    c.args.self.now.core c.heard.new.self
    c.in-Ok.ensures.heard) refl)
    c.deliver.ensures.back

pub returns-in_err-deliver-in-Ok-clause-back : goal.returns-in_err-deliver-in-Ok-clause-back
returns-in_err-deliver-in-Ok-clause-back g c =
    back-then c.args.self.now (record c.args.self.now { core = c.heard.new.self }) c.deliver.new.self
    (back-by c.args.self.now (record c.args.self.now { core = c.heard.new.self })
    (heard-grows (now c.args.self.now.core.state.moment c.args.context.when.moment) c.args.context.when.word c.args.peer c.args.bytes.now
    c.args.self.now.core c.heard.new.self
    c.in-Ok.ensures.heard) refl)
    c.deliver.ensures.back

pub deliver-requires-clause-served : goal.deliver-requires-clause-served
deliver-requires-clause-served g c =
    heard-served (now c.args.self.now.core.state.moment c.args.context.when.moment) c.args.context.when.word c.args.peer c.args.bytes.now
    c.args.self.now.core c.heard.new.self c.requires.drained.answers c.in-Ok.ensures.heard c.journal.ensures.kept.kept

pub returns-in-Err-clause-stays : goal.returns-in-Err-clause-stays
returns-in-Err-clause-stays g c = λ r. record {
  core = c.in-Err.ensures.memory;
  current = refl;
  marked = refl;
  outputs = refl;
}

pub returns-in-Err-clause-back : goal.returns-in-Err-clause-back
returns-in-Err-clause-back g c =
    back-state c.args.self.now (record c.args.self.now { core = c.heard.new.self })
    (ap (λ (v : CoreValue). v.state) c.in-Err.ensures.memory) refl
