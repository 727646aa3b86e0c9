use Rattle.std.proofs.Common.{◌≡◌, List, sym, ap, subst, length, map, ◌∙◌, arith}
use Rattle.std.proofs.lemmas.List.{length-map}
use Rattle.exchange_model.specs.declared.kept.Exchange.{Exchange}
use Rattle.exchange_table.specs.Marks.{IsTable}
use Rattle.exchange_table.specs.Tables.{IsIndexed, went_on}
use Rattle.exchange_table.proofs.Marking.{on-marks, table-map}
use Rattle.exchange_table.proofs.Standing.{put-back}
use Rattle.exchange_table.proofs.exchanges.Exchanges.go_on.Goals as goal

pub invariant_of-self : goal.invariant_of-self
invariant_of-self c =
    let old = c.self.inside.rows.items in
    let new = c.go_on.new.rows in
    let named = c.go_on.new.names.items in
    let keys = c.self.inside.keys.items in
    let places = c.self.inside.places.items in
    let f = went_on c.args.token.now c.args.next.now c.args.work c.args.is_first in
    let is : new ≡ map f old = c.go_on.ensures.rows ∙ ap (map f) c.deref_mut.ensures.value in
    let len : c.self.inside.rows.len ≡ length old = omega (arith, c.self.inside.rows.ok.0) in
    subst (λ (es : List Exchange). IsTable es named keys places)
    (sym (put-back new old c.self.inside.rows.len (ap length is ∙ length-map old f) len ∙ is))
    (table-map f old c.self.inside.names.items named keys places (on-marks c.args.token.now c.args.next.now c.args.work c.args.is_first)
    (subst (λ (es : List Exchange). IsIndexed es named) is c.go_on.ensures.names) c.self.invariant)
