use Rattle.std.proofs.Common.{List, Some, ap, subst, sym, ◌∙◌, ◌/◌, ◌%◌}
use Rattle.std.specs.Slice.{IsItemAt}
use Rattle.std.proofs.lemmas.Option.{slice_get-get_or}
use Rattle.journal_book.specs.declared.entry.Entry.{Entry}
use Rattle.journal_book.proofs.Filled.{found-in, none-found}
use Rattle.journal_book.proofs.segments.entry_at.Goals as goal

pub returns-in-Some : goal.returns-in-Some
returns-in-Some g c = λ n f.
    let found = c.in-Some.ensures.lookup.3 in
    found-in c.args.segments.now n c.args.number c.in-Some.segment.now c.get-in-Some.result f
    (slice_get-get_or c.args.segments.now (c.args.number / 1024) c.in-Some.segment.now found.0
    ∙ ap (λ s. Some s) (sym (found.1 c.in-Some.segment.now)))
    (subst (λ (xs : List (Entry g.row.R.Denot)). IsItemAt xs (c.args.number % 1024) c.get-in-Some.result)
    c.deref.ensures.value c.get-in-Some.ensures.lookup)

pub returns-in-None : goal.returns-in-None
returns-in-None g c = λ n f.
    none-found c.args.segments.now n c.args.number f c.in-None.ensures.lookup.3
