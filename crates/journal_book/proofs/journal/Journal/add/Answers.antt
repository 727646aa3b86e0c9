use Rattle.std.proofs.Common.{List, [], ◌∷◌, ◌++◌, ap, append_assoc, sym, ◌∙◌}
use Rattle.journal_book.specs.Entries.{Written}
use Rattle.journal_book.specs.Journals.{JournalValue}
use Rattle.journal_book.specs.Past.{past_in}
use Rattle.journal_book.specs.Segments.{entries_in}
use Rattle.journal_book.specs.Views.{item_of}
use Rattle.journal_book.proofs.journal.Journal.add.Goals as goal

pub returns-clause-entries : goal.returns-clause-entries
returns-clause-entries g c =
    let inside = c.self.inside in
    let more : List Written = item_of c.args.entry ∷ [] in
    ap (λ (ws : List Written). past_in inside.past ++ ws) c.put_entry.ensures.entries
    ∙ sym (append_assoc (past_in inside.past) (entries_in inside.segments.items) more)
    ∙ ap (λ (j : JournalValue). j.entries ++ more) c.self.view_is
