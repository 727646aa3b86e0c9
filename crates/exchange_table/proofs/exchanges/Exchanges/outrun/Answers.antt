use Rattle.std.proofs.Common.{◌≡◌, List, [], ◌∷◌, sym, ap, subst, length, map, ◌∙◌, arith}
use Rattle.std.proofs.lemmas.List.{length-map}
use Rattle.exchange_model.specs.declared.kept.Exchange.{Exchange}
use Rattle.exchange_model.specs.Matters.{outrun_by}
use Rattle.exchange_table.specs.Marks.{IsTable}
use Rattle.exchange_table.proofs.Indexed.{index-map}
use Rattle.exchange_table.proofs.Marking.{left-marks, table-map}
use Rattle.exchange_table.proofs.Outrun.{left-names}
use Rattle.exchange_table.proofs.Standing.{put-back}
use Rattle.exchange_table.proofs.exchanges.Exchanges.outrun.Goals as goal

pub outrun-requires-clause-ordered : goal.outrun-requires-clause-ordered
outrun-requires-clause-ordered g c = rw (c.deref_mut.ensures.value) c.self.invariant.indexed.openings

pub outrun-requires-clause-placed : goal.outrun-requires-clause-placed
outrun-requires-clause-placed g c = rw (c.deref_mut.ensures.value, c.deref.ensures.value) c.self.invariant.placed

pub outrun-requires-clause-digested : goal.outrun-requires-clause-digested
outrun-requires-clause-digested g c = rw (c.deref_mut.ensures.value) (rw (← c.self.view_is) at c.requires.digested)

pub invariant_of-self : goal.invariant_of-self
invariant_of-self g c =
    let old = c.self.inside.rows.items in
    let new = c.outrun.new.rows in
    let names = c.self.inside.names.items in
    let keys = c.self.inside.keys.items in
    let places = c.self.inside.places.items in
    let ws = c.args.journal.now.entries in
    let over = c.args.ended.now ∷ [] in
    let f = outrun_by ws over in
    let is : new ≡ map f old = c.outrun.ensures ∙ ap (map f) c.deref_mut.ensures.value in
    let len : c.self.inside.rows.len ≡ length old = omega (arith, c.self.inside.rows.ok.0) in
    subst (λ (es : List Exchange). IsTable es names keys places)
    (sym (put-back new old c.self.inside.rows.len (ap length is ∙ length-map old f) len ∙ is))
    (table-map f old names names keys places (left-marks ws over) (index-map f old names (left-names ws over) c.self.invariant.indexed) c.self.invariant)

pub outrun-requires-clause-here : goal.outrun-requires-clause-here
outrun-requires-clause-here g c = rw (c.deref_mut.ensures.value) (rw (← c.self.view_is) at c.requires.here)
