use Rattle.std.proofs.Common.{ℕ, List, ◌++◌, append-nil, arith, subst, sym, take_all}
use Rattle.journal_copies.specs.Marking.{AreMarks}
use Rattle.journal_copies.proofs.Grounded.{marks-step}
use Rattle.journal_copies.proofs.marks.Marks.mark_all.Goals as goal

pub each-init : goal.each-init
each-init g c = λ t gs h.
    subst (λ (hs : List ℕ). AreMarks t c.args.journal.now.entries hs c.args.self.now) (sym (append-nil gs)) h

pub each-preserved : goal.each-preserved
each-preserved g c = λ t gs h.
    marks-step t c.args.journal.now.entries gs c.args.numbers.now c.each.number-index _ c.mark.new.self
    c.each-test.true (c.mark.ensures t _ (c.each.invariant t gs h))

pub returns : goal.returns
returns g c = λ t gs h.
    let past = c.each-test.false in
    subst (λ (hs : List ℕ). AreMarks t c.args.journal.now.entries (gs ++ hs) c.each.self)
    (take_all c.each.number-index c.args.numbers.now (omega (arith, past))) (c.each.invariant t gs h)
