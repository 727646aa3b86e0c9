-- What the core gives out left the memory of the world.
use Rattle.std.proofs.Common.{List, Vec, map, refl, sym, ap, subst, ◌∙◌}
use Rattle.std.specs.declared.alloc.Global.{Global}
use Rattle.std.specs.Arc.{arc_value}
use Rattle.ask_model.specs.Views.{rules_of}
use Rattle.journal_book.specs.declared.entry.Entry.{Entry}
use Rattle.journal_book.specs.Views.{item_of}
use Rattle.gateway_world.specs.declared.engine.Engine.{Engine}
use Rattle.gateway_world.specs.Keeping.{IsKept}
use Rattle.gateway_world.specs.Worlds.{world_of}
use Rattle.gateway_world.proofs.Memories.{given-so, kept-given}
use Rattle.gateway_world.proofs.state.World.give.Goals as goal

pub invariant_of-self : goal.invariant_of-self
invariant_of-self g c =
    let rules = rules_of (arc_value c.self.inside.settings) in
    let before : Engine _ = c.deref_mut-engine.result.now in
    let kept = subst (λ (e : Engine _). IsKept g.R.Relation.holds g.R.Relation.takes rules c.self.inside.moment e)
    (sym c.deref_mut-engine.ensures.value) c.self.invariant in
    kept-given (λ (v : Vec (Entry _) Global). map item_of v.items) rules c.self.inside.moment c.give.result before
    (record before { core = c.give.new.self }) c.give.ensures.given refl g.R.Relation.holds g.R.Relation.takes
    c.give.ensures.none c.give.ensures.memory refl kept

pub returns-clause-given : goal.returns-clause-given
returns-clause-given g c =
    let rules = rules_of (arc_value c.self.inside.settings) in
    let before : Engine _ = c.deref_mut-engine.result.now in
    let view = ap (λ (e : Engine _). world_of e rules c.self.inside.moment) c.deref_mut-engine.ensures.value ∙ c.self.view_is in
    rw (← view)
    (given-so (λ (v : Vec (Entry _) Global). map item_of v.items) rules c.self.inside.moment c.give.result before
    (record before { core = c.give.new.self }) c.give.ensures.given refl)
