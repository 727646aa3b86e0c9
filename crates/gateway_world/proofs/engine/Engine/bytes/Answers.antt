-- The bytes are taken, and then what they ask is asked; or memory is refused for them.
use Rattle.std.proofs.Common.{refl, sym, subst}
use Rattle.gateway_model.specs.Waiting.{IsDrained}
use Rattle.gateway_world.specs.declared.engine.Engine.{Engine}
use Rattle.gateway_world.proofs.Acting.{missed-lead, refused-lead, then-ok, takes-lead}
use Rattle.gateway_world.proofs.Answering.{all-told}
use Rattle.gateway_world.proofs.Quiet.{closed-waits, still-drained}
use Rattle.gateway_world.proofs.engine.Engine.bytes.Goals as goal

pub returns-in-Ok-clause-leads : goal.returns-in-Ok-clause-leads
returns-in-Ok-clause-leads g c =
    then-ok c.serve.result _ _ c.serve.ensures.leads
    (λ serves. takes-lead _ _ c.args.number c.args.bytes.now c.args.self.now (record c.args.self.now { table = c.append.new.self })
    c.serve.new.self c.args.outputs.now.items c.serve.new.outputs.items refl c.in-Ok.ensures.more serves)

pub serve-requires-clause-told : goal.serve-requires-clause-told
serve-requires-clause-told g c = all-told c.args.number c.args.self.now.core c.requires.drained.answers

pub returns-then-close-clause-leads : goal.returns-then-close-clause-leads
returns-then-close-clause-leads g c =
    then-ok c.tell_given_up.result _ _ c.tell_given_up.ensures.told
    (λ told. refused-lead _ _ c.args.number c.args.bytes.now c.args.self.now c.append.new.self c.close.new.self
    c.args.outputs.now.items c.tell_given_up.new.outputs.items c.in-Err.ensures.unchanged
    (all-told c.args.number c.args.self.now.core c.requires.drained.answers)
    (record { shuts = c.close.ensures.closed c.if-close.true; told = told }))

pub returns-else-close-clause-leads : goal.returns-else-close-clause-leads
returns-else-close-clause-leads g c =
    missed-lead _ _ c.args.number c.args.bytes.now c.args.self.now c.append.new.self c.close.new.self c.args.outputs.now.items
    c.in-Err.ensures.unchanged c.requires.ready.numbers (c.close.ensures.unknown c.if-close.false)

pub returns-then-close-clause-drained : goal.returns-then-close-clause-drained
returns-then-close-clause-drained g c =
    then-ok c.tell_given_up.result _ _ c.tell_given_up.ensures.told
    (λ told. still-drained c.args.self.now.core c.close.new.self.core
    (closed-waits _ c.args.number c.args.self.now.core c.close.new.self.core (c.close.ensures.closed c.if-close.true).closed)
    c.requires.drained)

pub returns-else-close-clause-drained : goal.returns-else-close-clause-drained
returns-else-close-clause-drained g c =
    subst (λ (e : Engine _). IsDrained e.core) (sym (c.close.ensures.unknown c.if-close.false).0) c.requires.drained
