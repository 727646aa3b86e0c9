use Rattle.std.proofs.Common.{◌≡◌, ◌++◌, ◌∷◌, [], Some, get_or, List, Vec, map, sym, subst, ap, ◌∙◌, length, refl}
use Rattle.std.specs.declared.alloc.Global.{Global}
use Rattle.journal_book.specs.Journals.{is_of}
use Rattle.journal_book.specs.Keeping.{AreOf, numbers_in}
use Rattle.journal_book.specs.Views.{item_of}
use Rattle.journal_book.specs.declared.kept.KeptEntry.{KeptEntry}
use Rattle.journal_book.proofs.Named.{number-more, number-passed, of-append, of-one}
use Rattle.journal_book.proofs.kept.copy_named.Goals as goal
use Rattle.journal_book.proofs.kept.copy_named.Goals.{in-Some+in_ok-copy+in_ok-push, in_default}

pub each-preserved : goal.each-preserved
each-preserved g c =
    let segment = c.args.segment.now in
    let old = c.each.copies.items in
    elim c.match-entry_in.branch [
      | in-Some+in_ok-copy+in_ok-push w ↦
          let one : KeptEntry g.row.R.Denot = record { number = get_or c.args.named.now c.each.number-index 0; entry = w.in_ok-copy.field-0 } in
          let more : c.match-entry_in.copies.items ≡ old ++ one ∷ [] =
          ap (λ (v : Vec (KeptEntry g.row.R.Denot) Global). v.items) w.copies-is ∙ w.in_ok-push.ensures.items in
          record {
            numbers = number-more (is_of c.args.first (length segment)) c.args.named.now c.each.number-index old c.match-entry_in.copies.items one
                c.each-test.true refl w.in-Some.ensures.some more c.each.invariant.numbers;
            entries = λ ws long.
                let found = w.in-Some.ensures.entry ws long in
                subst (λ (ks : List (KeptEntry g.row.R.Denot)). AreOf (ws ++ map item_of segment) ks) (sym more)
                (of-append (ws ++ map item_of segment) old (one ∷ []) (c.each.invariant.entries ws long)
                (of-one (ws ++ map item_of segment) one (found ∙ ap (λ i. Some i) (sym w.in_ok-copy.ensures))));
          }
      | in_default w ↦
          let same = ap (λ (v : Vec (KeptEntry g.row.R.Denot) Global). v.items) w.copies-is in
          record {
            numbers = ap (λ (ks : List (KeptEntry g.row.R.Denot)). numbers_in ks) same
                ∙ number-passed (is_of c.args.first (length segment)) c.args.named.now c.each.number-index (numbers_in old) c.each-test.true
                (w.in_default.ensures.none refl) c.each.invariant.numbers;
            entries = λ ws long. subst (λ (ks : List (KeptEntry g.row.R.Denot)). AreOf (ws ++ map item_of segment) ks) (sym same)
                (c.each.invariant.entries ws long);
          }
    ]
