use Rattle.std.proofs.Common.{◌≡◌, ℕ, List, true, not, sym, ap, subst, ◌∙◌}
use Rattle.std.specs.Prelude.{filter}
use Rattle.exchange_model.specs.declared.kept.Reader.{Reader}
use Rattle.exchange_table.specs.Places.{RiseBy}
use Rattle.exchange_table.specs.Groups.{AreGrouped}
use Rattle.exchange_table.specs.Readers.{ask_in, has_ask, opening_read, reads}
use Rattle.exchange_table.proofs.Grouping.{AreThere, grouped-filter, only-there, through-groups}
use Rattle.exchange_table.proofs.Standing.{filter-only, rise-filter}
use Rattle.exchange_table.proofs.readers.remove_at.Goals as goal

pub take_out-requires-clause-asks : goal.take_out-requires-clause-asks
take_out-requires-clause-asks c =
    let o = c.remove-reader.result.opening in
    subst (λ (rs : List Reader). RiseBy ask_in rs) (sym (c.requires.grouped.same o)) (rise-filter ask_in (reads o) c.args.rows.now.items c.requires.ordered)

pub take_out-requires-clause-there : goal.take_out-requires-clause-there
take_out-requires-clause-there c =
    let rows = c.args.rows.now.items in
    let k = c.args.ask in
    let r = c.remove-reader.result in
    let only = c.requires.there in
    through-groups opening_read (λ (x : Reader). has_ask k x ≡ true → x.opening ≡ r.opening) rows c.args.groups.now.items c.requires.grouped
    (subst (λ (o : ℕ). AreThere opening_read (has_ask k) o rows) (ap opening_read (sym c.remove-reader.ensures.value)) (only-there opening_read (has_ask k) rows c.args.place r only))

pub returns-clause-rows : goal.returns-clause-rows
returns-clause-rows c =
    let rows = c.args.rows.now.items in
    let only = c.requires.there in
    c.remove-reader.ensures.items ∙ sym (filter-only (has_ask c.args.ask) rows c.args.place only)

pub returns-clause-groups : goal.returns-clause-groups
returns-clause-groups c =
    let rows = c.args.rows.now.items in
    let p = λ (r : Reader). not (has_ask c.args.ask r) in
    let only = c.requires.there in
    let left : c.remove-reader.new.self.items ≡ filter p rows = c.remove-reader.ensures.items ∙ sym (filter-only (has_ask c.args.ask) rows c.args.place only) in
    subst (λ (rs : List Reader). AreGrouped opening_read rs c.take_out.new.groups.items) (sym left)
    (subst (AreGrouped opening_read (filter p rows)) (sym c.take_out.ensures.items) (grouped-filter opening_read p rows c.args.groups.now.items c.requires.grouped))
