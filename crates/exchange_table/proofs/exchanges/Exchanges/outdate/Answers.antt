use Rattle.std.proofs.Common.{◌≡◌, List, sym, ap, subst, length, map, ◌∙◌, arith}
use Rattle.std.proofs.lemmas.List.{length-map}
use Rattle.exchange_model.specs.declared.kept.Exchange.{Exchange}
use Rattle.exchange_model.specs.Hearing.{outdated_by}
use Rattle.exchange_table.specs.Marks.{IsTable}
use Rattle.exchange_table.proofs.Indexed.{index-map}
use Rattle.exchange_table.proofs.Marking.{outdated-marks, table-map}
use Rattle.exchange_table.proofs.Reading.{outdated-names}
use Rattle.exchange_table.proofs.Standing.{put-back}
use Rattle.exchange_table.proofs.exchanges.Exchanges.outdate.Goals as goal

pub outdate-requires-clause-ordered : goal.outdate-requires-clause-ordered
outdate-requires-clause-ordered g c = rw (c.deref_mut.ensures.value) c.self.invariant.indexed.openings

pub outdate-requires-clause-keyed : goal.outdate-requires-clause-keyed
outdate-requires-clause-keyed g c = rw (c.deref_mut.ensures.value, c.deref.ensures.value) c.self.invariant.keyed

pub outdate-requires-clause-digested : goal.outdate-requires-clause-digested
outdate-requires-clause-digested g c = rw (c.deref_mut.ensures.value) (rw (← c.self.view_is) at c.requires.digested)

pub invariant_of-self : goal.invariant_of-self
invariant_of-self g c =
    let old = c.self.inside.rows.items in
    let new = c.outdate.new.rows in
    let names = c.self.inside.names.items in
    let keys = c.self.inside.keys.items in
    let places = c.self.inside.places.items in
    let ws = c.args.journal.now.entries in
    let f = outdated_by ws c.args.key.now in
    let is : new ≡ map f old = c.outdate.ensures ∙ ap (map f) c.deref_mut.ensures.value in
    let len : c.self.inside.rows.len ≡ length old = omega (arith, c.self.inside.rows.ok.0) in
    subst (λ (es : List Exchange). IsTable es names keys places)
    (sym (put-back new old c.self.inside.rows.len (ap length is ∙ length-map old f) len ∙ is))
    (table-map f old names names keys places (outdated-marks ws c.args.key.now) (index-map f old names (outdated-names ws c.args.key.now) c.self.invariant.indexed) c.self.invariant)

pub outdate-requires-clause-here : goal.outdate-requires-clause-here
outdate-requires-clause-here g c = rw (c.deref_mut.ensures.value) (rw (← c.self.view_is) at c.requires.here)
