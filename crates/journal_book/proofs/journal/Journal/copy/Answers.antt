use Rattle.std.proofs.Common.{[], ◌∷◌, ◌++◌, List, ap, arith, inl, sym, ◌∙◌}
use Rattle.journal_book.specs.Entries.{Written}
use Rattle.journal_book.specs.Journals.{JournalValue}
use Rattle.journal_book.specs.Views.{item_of}
use Rattle.journal_book.proofs.Filled.{more-behind}
use Rattle.journal_book.proofs.journal.Journal.copy.Goals as goal
use Rattle.journal_book.proofs.journal.Journal.copy.Goals.{in-Some+in_ok-copy, in_default}

pub each-preserved : goal.each-preserved
each-preserved g c = elim c.match-get.branch [
  | in-Some+in_ok-copy w ↦ record {
    same =
        ap (λ (j : JournalValue). j.entries) w.copy-is ∙ w.add.ensures.entries
        ∙ ap (λ (x : Written). c.each.copy.entries ++ x ∷ []) w.in_ok-copy.ensures
        ∙ ap (λ (xs : List Written). xs ++ item_of w.in-Some.entry.now ∷ []) c.each.invariant.same
        ∙ sym (more-behind c.args.self.now.entries c.args.self.now.given c.each.number (item_of w.in-Some.entry.now) c.each.invariant.behind w.in-Some.ensures.entry);
    none =
        ap (λ (j : JournalValue). j.given) w.copy-is ∙ w.add.ensures.given ∙ c.each.invariant.none;
    no_more =
        ap (λ (j : JournalValue). j.kept) w.copy-is ∙ w.add.ensures.kept ∙ c.each.invariant.no_more;
    behind = omega (arith, c.each.invariant.behind);
    room =
        let is = ap (λ (j : JournalValue). j.room) w.copy-is in
        omega (arith, is, w.add.ensures.room, c.each.invariant.room);
  }
  | in_default w ↦
      let past = w.in_default.ensures.entry (inl c.each.invariant.behind) in
      absurd (omega (arith, past, c.each-test.true, c.len-number-end.ensures))
]
