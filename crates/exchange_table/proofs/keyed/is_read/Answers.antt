use Rattle.std.proofs.Common.{rules, tests, sym, ap, ◌∙◌}
use Rattle.std.proofs.lemmas.Iterator.{YieldsList-from_slice}
use Rattle.std.proofs.lemmas.Iterator.Search.{any_from_yields_List}
use Rattle.exchange_table.specs.Joining.{is_reading_marked}
use Rattle.exchange_table.specs.Marks.{key_in}
use Rattle.exchange_table.proofs.AnyRead.{any-read}
use Rattle.exchange_table.proofs.keyed.is_read.Goals as goal

pub marked-alike-requires : goal.marked-alike-requires
marked-alike-requires g c = c.requires.keyed.order

pub returns : goal.returns
returns g c =
    any_from_yields_List (is_reading_marked c.args.journal.now.entries c.args.key.now c.args.rows.now) _ _ c.any.result c.any.ensures.ran
    (YieldsList-from_slice c.marked-alike.result.now c.iter.ensures.rest) (λ x b q k. search (rules, tests))
    ∙ sym (any-read c.args.journal.now.entries c.args.key.now c.args.rows.now c.half_of.result c.args.keys.now c.marked-alike.result.now
    c.requires.ordered c.requires.keyed c.requires.digested (c.half_of.ensures ∙ ap key_in c.digests.ensures) c.marked-alike.ensures)
