-- The answer is told, and its connection is closed where it is the last; or it is forgone.
use Rattle.std.proofs.Common.{[], ◌∷◌, sym, ap, ◌∙◌}
use Rattle.std.proofs.lemmas.List.{append-nil}
use Rattle.ask_model.specs.Views.{Mapping}
use Rattle.http_mapping.specs.Means.{closes as came_closes}
use Rattle.exchange_core.specs.Answering.{given_of}
use Rattle.gateway_model.specs.Emissions.{Closed, emissions}
use Rattle.gateway_world.proofs.Acting.{forgoes-lead, then-ok, tells-lead, ends-after, stays-after}
use Rattle.gateway_world.proofs.Asking.{shut-less}
use Rattle.gateway_world.proofs.Quiet.{closed-waits}
use Rattle.gateway_world.proofs.engine.Engine.tell.Goals as goal

pub returns-then-closes-clause-leads : goal.returns-then-closes-clause-leads
returns-then-closes-clause-leads g c = λ v taken.
    then-ok c.shut.result _ _ c.shut.ensures.shut
    (λ shut. tells-lead _ c.args.context.when (given_of c.args.answer) c.in-Ok.bytes.items v c.args.self.now c.shut.new.self
    c.args.outputs.now.items c.tell_bytes.new.outputs.items c.shut.new.outputs.items (Closed c.args.answer.conn ∷ []) taken
    c.requires.sent c.in-Ok.ensures c.in_ok-tell_bytes-in-Ok.ensures.told
    (ends-after c.args.context.when c.args.answer.conn _ c.args.self.now c.shut.new.self c.tell_bytes.new.outputs.items c.shut.new.outputs.items
    (ap came_closes (sym (c.came.ensures.came ∙ ap (λ (m : Mapping). m.came) c.deref.ensures)) ∙ (sym c.closes.ensures ∙ c.if-closes.true)) shut)
    shut.told)

pub returns-then-closes-clause-waits : goal.returns-then-closes-clause-waits
returns-then-closes-clause-waits g c =
    then-ok c.shut.result _ _ c.shut.ensures.shut
    (λ shut. closed-waits _ c.args.answer.conn c.args.self.now.core c.shut.new.self.core shut.shuts.closed)

pub returns-then-closes-clause-less : goal.returns-then-closes-clause-less
returns-then-closes-clause-less g c =
    then-ok c.shut.result _ _ c.shut.ensures.shut (λ shut. shut-less c.args.answer.conn _ _ shut.shuts.inlets)

pub returns-in-Ok-clause-leads : goal.returns-in-Ok-clause-leads
returns-in-Ok-clause-leads g c = λ v taken.
    tells-lead _ c.args.context.when (given_of c.args.answer) c.in-Ok.bytes.items v c.args.self.now c.args.self.now
    c.args.outputs.now.items c.tell_bytes.new.outputs.items c.tell_bytes.new.outputs.items [] taken c.requires.sent c.in-Ok.ensures
    c.in_ok-tell_bytes-in-Ok.ensures.told
    (stays-after c.args.context.when c.args.answer.conn _ c.args.self.now (ap came_closes (sym (c.came.ensures.came ∙ ap (λ (m : Mapping). m.came) c.deref.ensures)) ∙ (sym c.closes.ensures ∙ c.if-closes.false)))
    (sym (append-nil (emissions c.tell_bytes.new.outputs.items)))

pub returns-clause-leads : goal.returns-clause-leads
returns-clause-leads g c = λ v taken.
    then-ok c.give_up.result _ _ c.give_up.ensures.up
    (λ up. forgoes-lead _ c.args.context.when (given_of c.args.answer) v c.args.self.now c.give_up.new.self
    c.args.outputs.now.items c.give_up.new.outputs.items taken up)

pub returns-clause-waits : goal.returns-clause-waits
returns-clause-waits g c =
    then-ok c.give_up.result _ _ c.give_up.ensures.up
    (λ up. closed-waits _ c.args.answer.conn c.args.self.now.core c.give_up.new.self.core up.shuts.closed)

pub returns-clause-less : goal.returns-clause-less
returns-clause-less g c =
    then-ok c.give_up.result _ _ c.give_up.ensures.up (λ up. shut-less c.args.answer.conn _ _ up.shuts.inlets)
