use Rattle.std.proofs.Common.{length-append, ◌≡◌, ℕ, ◌+◌, [], ◌∷◌, ◌++◌, List, length, take, sym, subst, arith, inl, take_all}
use Rattle.std.proofs.lemmas.List.{length-take-le}
use Rattle.journal_book.specs.Entries.{Written}
use Rattle.journal_book.specs.Views.{item_of}
use Rattle.journal_book.proofs.Filled.{first-more}
use Rattle.exchange_model.specs.Rotating.{seen}
use Rattle.journal_copies.specs.Copying.{Looks}
use Rattle.journal_copies.specs.Knowing.{AreBefore, Knows}
use Rattle.journal_copies.specs.Marking.{AreMarks}
use Rattle.journal_copies.proofs.Marked.{Goes, goes-on, marks-none}
use Rattle.journal_copies.proofs.remembering.remembered.Goals as goal

pub unreachable-requires : goal.unreachable-requires
unreachable-requires g c =
    let past = c.in_default.ensures.entry (inl (omega (arith, c.requires.whole))) in
    omega (arith, past, c.each-test.true, c.len-number-end.ensures)

pub each-init : goal.each-init
each-init g c = record {
  knows = c.new-seen.ensures;
  before = tt;
  marked = marks-none c.args.moment c.new-marks.result c.new-marks.ensures.marks c.new-marks.ensures.count c.new-marks.ensures.bytes;
}

pub each-preserved : goal.each-preserved
each-preserved g c =
    let es : List Written = c.args.journal.now.entries in
    let n : ℕ = c.each.number in
    let ws : List Written = take n es in
    let w : Written = item_of c.in-Some.entry.now in
    let next : take (n + 1) es ≡ ws ++ w ∷ [] = first-more es n w c.in-Some.ensures.entry in
    let below = c.each-test.true in
    let end = c.len-number-end.ensures in
    let len : length ws ≡ n = length-take-le n es (omega (arith, below, end)) in
    let looks : Looks c.args.moment n w (seen ws) c.is_remembered.new.seen.moments c.in_ok-kept.kept =
    c.in_ok-kept.ensures n (seen ws) c.each.invariant.before c.each.invariant.knows in
    let goes : Goes c.args.moment (ws ++ w ∷ []) c.is_remembered.new.seen.moments c.push.new.self =
    goes-on c.args.moment n ws w c.is_remembered.new.seen.moments c.in_ok-kept.kept c.each.marks c.push.new.self
    len looks c.each.invariant.marked c.in_ok-push.ensures.marks c.in_ok-push.ensures.count c.in_ok-push.ensures.bytes in
    record {
      knows = subst (λ (vs : List Written). Knows c.is_remembered.new.seen.moments (seen vs)) (sym next) goes.knows;
      before =
          subst (λ (vs : List Written). AreBefore (n + 1) (seen vs)) (sym next)
          (subst (λ (k : ℕ). AreBefore k (seen (ws ++ w ∷ []))) (let more = length-append ws (w ∷ []) in omega (arith, more, len)) goes.before);
      marked = subst (λ (vs : List Written). AreMarks c.args.moment vs [] c.push.new.self) (sym next) goes.marked;
    }

pub returns : goal.returns
returns g c =
    let es : List Written = c.args.journal.now.entries in
    let past = c.each-test.false in
    let end = c.len-number-end.ensures in
    subst (λ (vs : List Written). AreMarks c.args.moment vs [] c.each.marks) (take_all c.each.number es (omega (arith, past, end))) c.each.invariant.marked
