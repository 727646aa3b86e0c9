-- The ask, what it sends and its answer; or the journal takes it no more, and the connection is closed; or memory is refused for
-- it, and it is given up.
use Rattle.std.proofs.Common.{ℕ, Ok, Err, None, refl, sym, ap, subst, ◌∙◌}
use Rattle.std.specs.Arc.{arc_value}
use Rattle.ask_model.specs.Maps.{Maps}
use Rattle.ask_model.specs.Views.{Mapping}
use Rattle.journal_book.specs.Views.{ask_of}
use Rattle.http_edge.specs.Edges.{item}
use Rattle.exchange_core.specs.Calls.{now}
use Rattle.gateway_world.specs.Leading.{rules_in}
use Rattle.gateway_model.specs.Orders.{AreFor}
use Rattle.exchange_core.specs.Values.{CoreValue}
use Rattle.gateway_model.specs.Waiting.{IsOpen}
use Rattle.gateway_model.proofs.CallerLemmas.{denied-open, open-conn}
use Rattle.gateway_world.specs.Engines.{KeepsWaiting}
use Rattle.gateway_world.proofs.Acting.{gives-up-lead, then-ok}
use Rattle.gateway_world.proofs.Asking.{asks-lead, denies-lead, came-item, ask-open, ask-stands, ask-waits, shut-less}
use Rattle.gateway_world.proofs.Growth.{asks-grows, back-by, back-then}
use Rattle.gateway_world.proofs.Lead.{leads-as}
use Rattle.gateway_world.proofs.Quiet.{closed-waits, denied-waits, waits-then}
use Rattle.gateway_world.proofs.ReadingOn.{without-item}
use Rattle.gateway_world.proofs.engine.Engine.ask.Goals as goal

pub returns-in_err-send_all-in-Ok-ask-clause-back : goal.returns-in_err-send_all-in-Ok-ask-clause-back
returns-in_err-send_all-in-Ok-ask-clause-back g c =
    back-then c.args.self.now (record c.args.self.now { core = c.ask.new.self }) c.send_all.new.self
    (back-by c.args.self.now (record c.args.self.now { core = c.ask.new.self })
    (asks-grows (Ok c.in-Ok-ask.ticket.number) (now c.args.self.now.core.state.moment c.args.context.when.moment) c.args.context.when.word c.args.number (ask_of (arc_value c.in-Ok-new.mapped)) c.args.self.now.core c.ask.new.self c.in-Ok-ask.ensures.asks) refl)
    c.in_err-send_all-in-Ok-ask.ensures.back

pub give-requires-clause-of : goal.give-requires-clause-of
give-requires-clause-of g c =
    ask-stands (now c.args.self.now.core.state.moment c.args.context.when.moment) c.args.context.when.word c.args.number c.in-Ok-ask.ticket.conn c.in-Ok-ask.ticket.number (ask_of (arc_value c.in-Ok-new.mapped)) c.args.self.now.core c.ask.new.self
    c.send_all.new.self.core c.in-Ok-ask.ensures.ticket.0 c.in-Ok-ask.ensures.asks c.in_ok-send_all-in-Ok-ask.ensures.sent.state

pub give-requires-clause-conn : goal.give-requires-clause-conn
give-requires-clause-conn g c =
    ask-open (now c.args.self.now.core.state.moment c.args.context.when.moment) c.args.context.when.word c.args.number c.in-Ok-ask.ticket.conn c.in-Ok-ask.ticket.number (ask_of (arc_value c.in-Ok-new.mapped)) c.args.self.now.core c.ask.new.self
    c.send_all.new.self.core c.in-Ok-ask.ensures.ticket.0 c.in-Ok-ask.ensures.asks c.in_ok-send_all-in-Ok-ask.ensures.sent.state

pub shut-requires : goal.shut-requires
shut-requires g c = record {
  conn = denied-open (now c.args.self.now.core.state.moment c.args.context.when.moment) c.args.context.when.word c.args.number (ask_of (arc_value c.in-Ok-new.mapped)) c.args.self.now.core c.ask.new.self
      (rw (c.in-Err-Sealed.field-0-is) at c.in-Err-Sealed.ensures.asks);
}

pub returns-in_ok-send_all-in-Ok-ask-clause-leads : goal.returns-in_ok-send_all-in-Ok-ask-clause-leads
returns-in_ok-send_all-in-Ok-ask-clause-leads g c = λ xs takes.
    let held = c.in-Ok-new.ensures.ok in
    then-ok c.give.result _ _ c.give.ensures.leads
    (λ gives. asks-lead _ _ c.args.number c.in-Ok-ask.ticket.number (ask_of (arc_value c.in-Ok-new.mapped)) (item c.args.incoming)
    c.args.self.now.core xs (record c.args.self.now { core = c.ask.new.self }) c.send_all.new.self c.give.new.self
    c.args.outputs.now.items c.send_all.new.outputs.items c.give.new.outputs.items c.requires.told c.in-Ok-ask.ensures.asks takes
    (ap (λ (m : Mapping). m.came) held ∙ (c.in-Ok.ensures.came ∙ sym (came-item c.args.incoming)))
    record {
      by = ap (λ (m : Mapping). m.rules) held ∙ c.in-Ok.ensures.rules;
      maps = subst (λ (m : Mapping). Maps g.R.Relation.holds g.R.Relation.takes (rules_in c.args.context) m.came m.sense) (sym held)
          c.in-Ok.ensures.maps;
    }
    c.in_ok-send_all-in-Ok-ask.ensures.leads
    (leads-as _ _ (AreFor c.in-Ok-ask.ticket.conn) (AreFor c.args.number) _ _ _ _
    (λ acts h. subst (λ (n : ℕ). AreFor n acts) c.in-Ok-ask.ensures.ticket.0 h) gives))

pub returns-in_ok-send_all-in-Ok-ask-clause-back : goal.returns-in_ok-send_all-in-Ok-ask-clause-back
returns-in_ok-send_all-in-Ok-ask-clause-back g c =
    back-then c.args.self.now (record c.args.self.now { core = c.ask.new.self }) c.give.new.self
    (back-by c.args.self.now (record c.args.self.now { core = c.ask.new.self })
    (asks-grows (Ok c.in-Ok-ask.ticket.number) (now c.args.self.now.core.state.moment c.args.context.when.moment) c.args.context.when.word c.args.number (ask_of (arc_value c.in-Ok-new.mapped)) c.args.self.now.core c.ask.new.self c.in-Ok-ask.ensures.asks) refl)
    (back-then _ c.send_all.new.self c.give.new.self c.in_ok-send_all-in-Ok-ask.ensures.back c.give.ensures.back)

pub returns-in_ok-send_all-in-Ok-ask-clause-waits : goal.returns-in_ok-send_all-in-Ok-ask-clause-waits
returns-in_ok-send_all-in-Ok-ask-clause-waits g c =
    then-ok c.give.result _ _ c.give.ensures.waits
    (λ go. ask-waits (now c.args.self.now.core.state.moment c.args.context.when.moment) c.args.context.when.word c.args.number c.in-Ok-ask.ticket.number (ask_of (arc_value c.in-Ok-new.mapped)) c.args.self.now.core c.ask.new.self c.send_all.new.self.core
    c.give.new.self.core c.in-Ok-ask.ensures.asks c.in-Ok-ask.ensures.older c.in_ok-send_all-in-Ok-ask.ensures.sent go)

pub returns-in-Err-Sealed-clause-leads : goal.returns-in-Err-Sealed-clause-leads
returns-in-Err-Sealed-clause-leads g c = λ xs takes.
    let held = c.in-Ok-new.ensures.ok in
    then-ok c.shut.result _ _ c.shut.ensures.shut
    (λ shuts. denies-lead _ _ c.args.number (ask_of (arc_value c.in-Ok-new.mapped)) (item c.args.incoming)
    c.args.self.now.core xs (record c.args.self.now { core = c.ask.new.self }) c.shut.new.self
    c.args.outputs.now.items c.shut.new.outputs.items c.requires.told (rw (c.in-Err-Sealed.field-0-is) at c.in-Err-Sealed.ensures.asks) takes
    (ap (λ (m : Mapping). m.came) held ∙ (c.in-Ok.ensures.came ∙ sym (came-item c.args.incoming)))
    record {
      by = ap (λ (m : Mapping). m.rules) held ∙ c.in-Ok.ensures.rules;
      maps = subst (λ (m : Mapping). Maps g.R.Relation.holds g.R.Relation.takes (rules_in c.args.context) m.came m.sense) (sym held)
          c.in-Ok.ensures.maps;
    }
    shuts)

pub returns-in-Err-Sealed-clause-back : goal.returns-in-Err-Sealed-clause-back
returns-in-Err-Sealed-clause-back g c =
    back-then c.args.self.now (record c.args.self.now { core = c.ask.new.self }) c.shut.new.self
    (back-by c.args.self.now (record c.args.self.now { core = c.ask.new.self })
    (asks-grows (Err c.in-Err-Sealed.field-0) (now c.args.self.now.core.state.moment c.args.context.when.moment) c.args.context.when.word c.args.number (ask_of (arc_value c.in-Ok-new.mapped)) c.args.self.now.core c.ask.new.self c.in-Err-Sealed.ensures.asks) refl)
    c.shut.ensures.back

pub returns-in-Err-Sealed-clause-waits : goal.returns-in-Err-Sealed-clause-waits
returns-in-Err-Sealed-clause-waits g c =
    then-ok c.shut.result _ _ c.shut.ensures.shut
    (λ shut. waits-then c.args.self.now.core c.ask.new.self c.shut.new.self.core
    (denied-waits (now c.args.self.now.core.state.moment c.args.context.when.moment) c.args.context.when.word c.args.number (ask_of (arc_value c.in-Ok-new.mapped)) c.args.self.now.core c.ask.new.self (rw (c.in-Err-Sealed.field-0-is) at c.in-Err-Sealed.ensures.asks))
    (closed-waits _ c.args.number c.ask.new.self c.shut.new.self.core shut.shuts.closed))

pub returns-in-Err-Sealed-clause-less : goal.returns-in-Err-Sealed-clause-less
returns-in-Err-Sealed-clause-less g c =
    then-ok c.shut.result _ _ c.shut.ensures.shut (λ shut. shut-less c.args.number _ _ shut.shuts.inlets)

pub returns-in_default-clause-leads : goal.returns-in_default-clause-leads
returns-in_default-clause-leads g c = λ xs takes.
    then-ok c.give_up.result _ _ c.give_up.ensures.up
    (λ up. gives-up-lead _ _ c.args.number c.args.self.now.core xs c.args.self.now c.give_up.new.self
    c.args.outputs.now.items c.give_up.new.outputs.items refl (without-item c.args.number (item c.args.incoming) _ _ takes) c.requires.told up)

pub returns-in_default-clause-waits : goal.returns-in_default-clause-waits
returns-in_default-clause-waits g c =
    then-ok c.give_up.result _ _ c.give_up.ensures.up
    (λ up. closed-waits _ c.args.number c.args.self.now.core c.give_up.new.self.core up.shuts.closed)

pub returns-in_default-clause-less : goal.returns-in_default-clause-less
returns-in_default-clause-less g c =
    then-ok c.give_up.result _ _ c.give_up.ensures.up (λ up. shut-less c.args.number _ _ up.shuts.inlets)

pub give_up-requires : goal.give_up-requires
give_up-requires g c = record { conn = open-conn c.args.number None c.args.self.now.core.state.conns c.requires.idle }

pub returns-in_default-new-clause-leads : goal.returns-in_default-new-clause-leads
returns-in_default-new-clause-leads g c = λ xs takes.
    then-ok c.give_up-in_default-new.result _ _ c.give_up-in_default-new.ensures.up
    (λ up. gives-up-lead _ _ c.args.number c.args.self.now.core xs c.args.self.now c.give_up-in_default-new.new.self
    c.args.outputs.now.items c.give_up-in_default-new.new.outputs.items refl (without-item c.args.number (item c.args.incoming) _ _ takes) c.requires.told up)

pub returns-in_default-new-clause-waits : goal.returns-in_default-new-clause-waits
returns-in_default-new-clause-waits g c =
    then-ok c.give_up-in_default-new.result _ _ c.give_up-in_default-new.ensures.up
    (λ up. closed-waits _ c.args.number c.args.self.now.core c.give_up-in_default-new.new.self.core up.shuts.closed)

pub returns-in_default-new-clause-less : goal.returns-in_default-new-clause-less
returns-in_default-new-clause-less g c =
    then-ok c.give_up-in_default-new.result _ _ c.give_up-in_default-new.ensures.up (λ up. shut-less c.args.number _ _ up.shuts.inlets)

pub give_up-requires-in_default-new : goal.give_up-requires-in_default-new
give_up-requires-in_default-new g c = record { conn = open-conn c.args.number None c.args.self.now.core.state.conns c.requires.idle }

pub returns-in-Err-Memory-clause-leads : goal.returns-in-Err-Memory-clause-leads
returns-in-Err-Memory-clause-leads g c = λ xs takes.
    then-ok c.give_up-in-Err-Memory.result _ _ c.give_up-in-Err-Memory.ensures.up
    (λ up. gives-up-lead _ _ c.args.number c.args.self.now.core xs (record c.args.self.now { core = c.ask.new.self }) c.give_up-in-Err-Memory.new.self
    c.args.outputs.now.items c.give_up-in-Err-Memory.new.outputs.items (rw (c.in-Err-Memory.field-0-is) at c.in-Err-Memory.ensures.asks).0
    (without-item c.args.number (item c.args.incoming) _ _ takes) c.requires.told up)

pub returns-in-Err-Memory-clause-back : goal.returns-in-Err-Memory-clause-back
returns-in-Err-Memory-clause-back g c =
    back-then c.args.self.now (record c.args.self.now { core = c.ask.new.self }) c.give_up-in-Err-Memory.new.self
    (back-by c.args.self.now (record c.args.self.now { core = c.ask.new.self })
    (asks-grows (Err c.in-Err-Memory.field-0) (now c.args.self.now.core.state.moment c.args.context.when.moment) c.args.context.when.word c.args.number (ask_of (arc_value c.in-Ok-new.mapped)) c.args.self.now.core c.ask.new.self c.in-Err-Memory.ensures.asks) refl)
    c.give_up-in-Err-Memory.ensures.back

pub returns-in-Err-Memory-clause-waits : goal.returns-in-Err-Memory-clause-waits
returns-in-Err-Memory-clause-waits g c =
    then-ok c.give_up-in-Err-Memory.result _ _ c.give_up-in-Err-Memory.ensures.up
    (λ up. subst (λ (v : CoreValue). KeepsWaiting v c.give_up-in-Err-Memory.new.self.core) (rw (c.in-Err-Memory.field-0-is) at c.in-Err-Memory.ensures.asks).0
    (closed-waits _ c.args.number c.ask.new.self c.give_up-in-Err-Memory.new.self.core up.shuts.closed))

pub returns-in-Err-Memory-clause-less : goal.returns-in-Err-Memory-clause-less
returns-in-Err-Memory-clause-less g c =
    then-ok c.give_up-in-Err-Memory.result _ _ c.give_up-in-Err-Memory.ensures.up (λ up. shut-less c.args.number _ _ up.shuts.inlets)

pub give_up-requires-in-Err-Memory : goal.give_up-requires-in-Err-Memory
give_up-requires-in-Err-Memory g c = record {
  conn = subst (λ (v : CoreValue). IsOpen c.args.number v.state.conns)
      (sym (rw (c.in-Err-Memory.field-0-is) at c.in-Err-Memory.ensures.asks).0)
      (open-conn c.args.number None c.args.self.now.core.state.conns c.requires.idle);
}
