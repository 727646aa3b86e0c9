-- One more entry is one more copy.
use Rattle.std.proofs.Common.{[], ◌∷◌, ◌++◌, List, ap, arith, inl, length, length-append, map, sym, ◌∙◌}
use Rattle.std.proofs.lemmas.List.{map_push}
use Rattle.journal_book.specs.Entries.{Written}
use Rattle.journal_book.specs.Views.{item_of}
use Rattle.journal_book.specs.declared.entry.Entry.{Entry}
use Rattle.journal_extracts.proofs.Later.{later-more}
use Rattle.journal_extracts.proofs.extract.add_copies.Goals as goal

pub unreachable-requires : goal.unreachable-requires
unreachable-requires g c =
    let past = c.in_default.ensures.entry (inl (omega (arith, c.requires.here, c.each.auto.number))) in
    omega (arith, past, c.requires.within, c.each-test.true)

pub each-preserved : goal.each-preserved
each-preserved g c =
    let es : List (Entry g.row.R.Denot) = c.each.entries.items in
    let copy : Entry g.row.R.Denot = c.in_ok-copy.field-0 in
    let pushed = c.in_ok-push.ensures.items in
    record {
      copied =
          ap (λ (xs : List (Entry g.row.R.Denot)). map item_of xs) pushed ∙ map_push item_of es copy
          ∙ ap (λ (w : Written). map item_of es ++ w ∷ []) c.in_ok-copy.ensures
          ∙ ap (λ (ws : List Written). ws ++ item_of c.in-Some.entry.now ∷ []) c.each.invariant.copied
          ∙ sym (later-more c.args.journal.now.entries c.args.from c.each.number
          (item_of c.in-Some.entry.now) c.each.auto.number c.in-Some.ensures.entry);
      count =
          let longer = ap (λ (xs : List (Entry g.row.R.Denot)). length xs) pushed in
          let one = length-append es (copy ∷ []) in
          let was = c.each.invariant.count in
          omega (arith, longer, one, was);
    }
