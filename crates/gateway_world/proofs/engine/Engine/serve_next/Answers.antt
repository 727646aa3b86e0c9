-- What is next is asked, or the client is told to go on, or nothing is asked; or it is given up.
use Rattle.std.proofs.Common.{◌<◌, ◌≤◌, None, inl, inr, refl, ap, arith}
use Rattle.std.proofs.lemmas.Bool.{both_ways}
use Rattle.http_edge.specs.Edges.{item}
use Rattle.gateway_connections.specs.Inlets.{Inlet, inlet_at}
use Rattle.gateway_connections.specs.Reads.{Stays}
use Rattle.gateway_model.proofs.CallerLemmas.{open-conn}
use Rattle.gateway_world.specs.Engines.{work_in}
use Rattle.gateway_world.proofs.Acting.{gives-up-out, rests-lead}
use Rattle.gateway_world.proofs.Quiet.{closed-waits}
use Rattle.gateway_world.proofs.ReadingOn.{takes-item, asks-less, nothing-counts, nothing-read, without-read}
use Rattle.gateway_world.proofs.engine.Engine.serve_next.Goals as goal

pub returns-in_ok-ask-in-Ok-Request-clause-leads : goal.returns-in_ok-ask-in-Ok-Request-clause-leads
returns-in_ok-ask-in-Ok-Request-clause-leads g c =
    c.in_ok-ask-in-Ok-Request.ensures.leads c.args.self.now.table.current
    (takes-item c.args.number (item c.in-Ok-Request.incoming) _ _ (rw (c.in-Ok-Request.field-0-is) at c.in-Ok-Request.ensures.reads))

pub returns-in_ok-ask-in-Ok-Request-clause-goes_on : goal.returns-in_ok-ask-in-Ok-Request-clause-goes_on
returns-in_ok-ask-in-Ok-Request-clause-goes_on g c =
    let lt : work_in (inlet_at c.args.number c.next.new.self.current) < work_in (inlet_at c.args.number c.args.self.now.table.current) =
    asks-less c.args.number (item c.in-Ok-Request.incoming) _ _ (rw (c.in-Ok-Request.field-0-is) at c.in-Ok-Request.ensures.reads) in
    let le : work_in (inlet_at c.args.number c.ask.new.self.table.current) ≤ work_in (inlet_at c.args.number c.next.new.self.current) =
    c.in_ok-ask-in-Ok-Request.ensures.less in
    omega (arith, lt, le)

pub returns-in_ok-tell_continue-in-Ok-Continue-clause-leads : goal.returns-in_ok-tell_continue-in-Ok-Continue-clause-leads
returns-in_ok-tell_continue-in-Ok-Continue-clause-leads g c =
    c.in_ok-tell_continue-in-Ok-Continue.ensures.leads c.args.self.now.table.current
    (rw (c.in-Ok-Continue.field-0-is) at c.in-Ok-Continue.ensures.reads)

pub returns-in-Ok-Nothing-clause-leads : goal.returns-in-Ok-Nothing-clause-leads
returns-in-Ok-Nothing-clause-leads g c =
    rests-lead _ _ c.args.number c.args.self.now (record c.args.self.now { table = c.next.new.self }) c.args.outputs.now.items refl
    (nothing-counts c.args.number c.args.self.now.table.current c.next.new.self.current
    (rw (c.in-Ok-Nothing.field-0-is) at c.in-Ok-Nothing.ensures.reads))
    (inr (nothing-read c.args.number c.args.self.now.table.current c.next.new.self.current
    (rw (c.in-Ok-Nothing.field-0-is) at c.in-Ok-Nothing.ensures.reads)))

pub returns-in_ok-give_up-in-Err-clause-leads : goal.returns-in_ok-give_up-in-Err-clause-leads
returns-in_ok-give_up-in-Err-clause-leads g c =
    gives-up-out _ _ c.args.number c.args.self.now.core c.args.self.now.table.current
    (record c.args.self.now { table = c.next.new.self }) c.give_up.new.self c.args.outputs.now.items c.give_up.new.outputs.items refl
    (without-read c.args.number Stays c.args.self.now.table.current c.next.new.self.current c.in-Err.ensures.reads
    (λ x y e. ap (λ (z : Inlet). z.number) e))
    c.requires.told c.in_ok-give_up-in-Err.ensures.up

pub returns-in_ok-give_up-in-Err-clause-waits : goal.returns-in_ok-give_up-in-Err-clause-waits
returns-in_ok-give_up-in-Err-clause-waits g c =
    closed-waits _ c.args.number c.args.self.now.core c.give_up.new.self.core c.in_ok-give_up-in-Err.ensures.up.shuts.closed

pub give_up-requires : goal.give_up-requires
give_up-requires g c = record {
  conn = open-conn c.args.number None c.args.self.now.core.state.conns (c.is_idle.ensures.0 c.if-not-is_idle.false);
}

pub returns-then-not-is_idle-clause-leads : goal.returns-then-not-is_idle-clause-leads
returns-then-not-is_idle-clause-leads g c =
    rests-lead _ _ c.args.number c.args.self.now c.args.self.now c.args.outputs.now.items refl (inl refl)
    (inl (λ has. (both_ways c.is_idle.result c.if-not-is_idle.true (c.is_idle.ensures.1 has))))
