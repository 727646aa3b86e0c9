-- The answer to the ask is told, which is its connection's.
use Rattle.std.proofs.Common.{ℕ, ◌≤◌, sym, ap, ◌∙◌, subst}
use Rattle.gateway_connections.specs.Inlets.{inlet_at}
use Rattle.gateway_world.specs.Engines.{work_in}
use Rattle.exchange_core.specs.Answering.{given_of}
use Rattle.exchange_core.specs.Values.{CoreValue}
use Rattle.gateway_model.specs.Waiting.{IsOpen}
use Rattle.gateway_world.proofs.Acting.{then-ok}
use Rattle.gateway_world.proofs.Asking.{given-lead, taken-self, taken-conn, lets-none, lets-some}
use Rattle.gateway_world.proofs.engine.Engine.give.Goals as goal

pub returns-in-Some-clause-leads : goal.returns-in-Some-clause-leads
returns-in-Some-clause-leads g c =
    let a = given_of c.in-Some.answer in
    then-ok c.tell.result _ _
    (c.tell.ensures.leads c.args.self.now.core (taken-self a c.args.ticket.now.number _ _ c.in-Some.ensures))
    (λ told. given-lead _ _ c.args.ticket.now.conn a.conn a.ask _ c.tell.new.self _ c.tell.new.outputs.items
    (taken-conn a c.args.ticket.now.conn c.args.ticket.now.number _ _ c.in-Some.ensures c.requires.of) told)

pub returns-in-None-clause-waits : goal.returns-in-None-clause-waits
returns-in-None-clause-waits g c = lets-none c.args.ticket.now.number _ _ c.in-None.ensures

pub returns-in-Some-clause-waits : goal.returns-in-Some-clause-waits
returns-in-Some-clause-waits g c =
    then-ok c.tell.result _ _ c.tell.ensures.waits
    (λ waits. lets-some (given_of c.in-Some.answer) c.args.ticket.now.number c.args.self.now.core c.take_answer.new.self
    c.tell.new.self.core c.in-Some.ensures waits)

pub returns-in-Some-clause-less : goal.returns-in-Some-clause-less
returns-in-Some-clause-less g c =
    then-ok c.tell.result _ _ c.tell.ensures.less
    (λ less. subst (λ (n : ℕ). work_in (inlet_at n c.tell.new.self.table.current) ≤ work_in (inlet_at n c.args.self.now.table.current))
    (taken-conn (given_of c.in-Some.answer) c.args.ticket.now.conn c.args.ticket.now.number _ _ c.in-Some.ensures c.requires.of) less)

pub tell-requires-clause-conn : goal.tell-requires-clause-conn
tell-requires-clause-conn g c =
    let a = given_of c.in-Some.answer in
    subst (λ (n : ℕ). IsOpen n c.take_answer.new.self.state.conns)
    (sym (taken-conn a c.args.ticket.now.conn c.args.ticket.now.number _ _ c.in-Some.ensures c.requires.of))
    (subst (λ (v : CoreValue). IsOpen c.args.ticket.now.conn v.state.conns) (sym c.in-Some.ensures.3) c.requires.conn)

pub tell-requires-clause-sent : goal.tell-requires-clause-sent
tell-requires-clause-sent g c = ap (λ (v : CoreValue). v.unsent) c.in-Some.ensures.3 ∙ c.requires.sent
