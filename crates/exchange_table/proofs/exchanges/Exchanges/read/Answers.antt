use Rattle.std.proofs.Common.{◌≡◌, List, sym, ap, subst, length, map, refl, ◌∙◌, arith}
use Rattle.std.proofs.lemmas.List.{length-map}
use Rattle.exchange_model.specs.declared.kept.Exchange.{Exchange}
use Rattle.exchange_model.specs.Steps.{read_at}
use Rattle.exchange_table.specs.Marks.{IsTable}
use Rattle.exchange_table.specs.Places.{RiseBy}
use Rattle.exchange_table.specs.Tables.{opening_of}
use Rattle.exchange_table.proofs.Indexed.{index-map}
use Rattle.exchange_table.proofs.Marking.{table-map}
use Rattle.exchange_table.proofs.Standing.{put-back}
use Rattle.exchange_table.proofs.exchanges.Exchanges.read.Goals as goal

pub read-requires : goal.read-requires
read-requires c = subst (λ (es : List Exchange). RiseBy opening_of es) (sym c.deref_mut.ensures.value) c.self.invariant.indexed.openings

pub invariant_of-self : goal.invariant_of-self
invariant_of-self c =
    let old = c.self.inside.rows.items in
    let new = c.read.new.rows in
    let f = read_at c.args.moment c.args.opening in
    let is : new ≡ map f old = c.read.ensures ∙ ap (map f) c.deref_mut.ensures.value in
    let len : c.self.inside.rows.len ≡ length old = omega (arith, c.self.inside.rows.ok.0) in
    let names = c.self.inside.names.items in
    let keys = c.self.inside.keys.items in
    let places = c.self.inside.places.items in
    subst (λ (es : List Exchange). IsTable es names keys places)
    (sym (put-back new old c.self.inside.rows.len (ap length is ∙ length-map old f) len ∙ is))
    (table-map f old names names keys places (λ n e. refl) (index-map f old names (λ (e : Exchange). refl) c.self.invariant.indexed) c.self.invariant)
