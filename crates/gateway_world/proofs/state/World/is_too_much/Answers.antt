-- Who waits for no answer is read out, and what the table counts of it is what its text leaves.
use Rattle.std.proofs.Common.{length, ap, sym, subst, ◌∙◌}
use Rattle.std.specs.Arc.{arc_value}
use Rattle.ask_model.specs.Views.{rules_of}
use Rattle.exchange_model.proofs.CallerLemmas.{conns-rise}
use Rattle.gateway_model.specs.Resting.{AllRest}
use Rattle.gateway_model.proofs.CallerLemmas.{once-rising}
use Rattle.gateway_world.specs.declared.engine.Engine.{Engine}
use Rattle.gateway_world.specs.Leading.{served_of}
use Rattle.gateway_world.specs.Worlds.{world_of}
use Rattle.gateway_world.proofs.Limits.{limit-so}
use Rattle.gateway_world.proofs.state.World.is_too_much.Goals as goal

pub returns-in-Bytes : goal.returns-in-Bytes
returns-in-Bytes g c =
    let e = c.deref-engine.result.now in
    let same = c.deref-engine.ensures in
    let rest = subst (λ (e : Engine _). AllRest (served_of e)) (sym same) c.self.invariant.3 in
    let view = ap (λ (e : Engine _). world_of e (rules_of (arc_value c.self.inside.settings)) c.self.inside.moment) same ∙ c.self.view_is in
    rw (c.in-Bytes.is, ← view)
    (limit-so c.in-Bytes.number (length c.in-Bytes.bytes.now) e.core e.table.current
    (once-rising e.core.state.conns (conns-rise e.core.state c.journal.ensures.kept)) rest
    c.is_idle-reads.result c.passes_limit.result c.is_idle-reads.ensures c.passes_limit.ensures)
