use Rattle.std.proofs.Common.{◌≡◌, ℕ, ◌+◌, [], ◌∷◌, ◌++◌, List, length, get_or, take, Option, None, ap, sym, ◌∙◌, arith, inl, take_all}
use Rattle.std.proofs.lemmas.List.{length-take-le}
use Rattle.journal_book.specs.Entries.{Written}
use Rattle.journal_book.specs.Views.{item_of}
use Rattle.journal_book.specs.declared.entry.Mark.{Mark}
use Rattle.journal_book.proofs.Filled.{first-more}
use Rattle.exchange_model.specs.Rotating.{seen}
use Rattle.journal_copies.specs.Copying.{copied_by}
use Rattle.journal_copies.proofs.Copied.{copied_from, copied-is, copied-more}
use Rattle.journal_copies.proofs.copies.copies_of.Goals as goal

pub unreachable-requires : goal.unreachable-requires
unreachable-requires g c =
    let past = c.in_default.ensures.entry (inl (omega (arith, c.requires.whole))) in
    omega (arith, past, c.each-test.true, c.len-number-end.ensures)

pub each-preserved : goal.each-preserved
each-preserved g c =
    let es : List Written = c.args.journal.now.entries in
    let ms : List (Option Mark) = c.args.marks.now.marks.items in
    let n : ℕ = c.each.number in
    let ws : List Written = take n es in
    let w : Written = item_of c.in-Some.entry.now in
    let next : take (n + 1) es ≡ ws ++ w ∷ [] = first-more es n w c.in-Some.ensures.entry in
    let below = c.each-test.true in
    let end = c.len-number-end.ensures in
    let len : length ws ≡ n = length-take-le n es (omega (arith, below, end)) in
    record {
      copied =
          c.in_ok-add.ensures.entries
          ∙ (ap (λ (cs : List Written). cs ++ copied_by c.get-in-each.result n w) c.each.invariant.copied
          ∙ (ap (λ (m : Option Mark). copied_from 0 ws ms ++ copied_by m n w) c.get-in-each.ensures
          ∙ (ap (λ (k : ℕ). copied_from 0 ws ms ++ copied_by (get_or ms k None) k w) (sym len)
          ∙ (ap (λ (k : ℕ). copied_from 0 ws ms ++ copied_by (get_or ms (length ws) None) k w) (by (length ws))
          ∙ (sym (copied-more 0 ws ms w)
          ∙ ap (λ (vs : List Written). copied_from 0 vs ms) (sym next))))));
      counted = c.in_ok-add.ensures.counted;
    }
  where
    by : (k : ℕ) → k ≡ 0 + k
    by k = omega arith

pub returns-clause-entries : goal.returns-clause-entries
returns-clause-entries g c = λ t gs h.
    let es : List Written = c.args.journal.now.entries in
    let past = c.each-test.false in
    let end = c.len-number-end.ensures in
    c.each.invariant.copied
    ∙ (ap (λ (vs : List Written). copied_from 0 vs c.args.marks.now.marks.items) (take_all c.each.number es (omega (arith, past, end)))
    ∙ (ap (λ (ms : List (Option Mark)). copied_from 0 es ms) h.marks
    ∙ copied-is t (seen es) gs 0 es))
