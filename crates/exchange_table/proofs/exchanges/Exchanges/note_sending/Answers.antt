use Rattle.std.proofs.Common.{◌≡◌, List, sym, ap, subst, length, map, ◌∙◌, arith}
use Rattle.std.proofs.lemmas.List.{length-map}
use Rattle.exchange_model.specs.declared.kept.Exchange.{Exchange}
use Rattle.exchange_model.specs.Steps.{went_out}
use Rattle.exchange_table.specs.Marks.{IsTable}
use Rattle.exchange_table.proofs.Indexed.{index-map, out-names}
use Rattle.exchange_table.proofs.Marking.{out-marks, table-map}
use Rattle.exchange_table.proofs.Standing.{put-back}
use Rattle.exchange_table.proofs.exchanges.Exchanges.note_sending.Goals as goal

pub note_sending-requires : goal.note_sending-requires
note_sending-requires c = rw (c.deref_mut.ensures.value, c.deref.ensures.value) c.self.invariant.indexed

pub invariant_of-self : goal.invariant_of-self
invariant_of-self c =
    let old = c.self.inside.rows.items in
    let new = c.note_sending.new.rows in
    let names = c.self.inside.names.items in
    let keys = c.self.inside.keys.items in
    let places = c.self.inside.places.items in
    let f = went_out c.args.token.now c.args.number in
    let is : new ≡ map f old = c.note_sending.ensures ∙ ap (map f) c.deref_mut.ensures.value in
    let len : c.self.inside.rows.len ≡ length old = omega (arith, c.self.inside.rows.ok.0) in
    subst (λ (es : List Exchange). IsTable es names keys places)
    (sym (put-back new old c.self.inside.rows.len (ap length is ∙ length-map old f) len ∙ is))
    (table-map f old names names keys places (out-marks c.args.token.now c.args.number)
    (index-map f old names (out-names c.args.token.now c.args.number) c.self.invariant.indexed) c.self.invariant)
