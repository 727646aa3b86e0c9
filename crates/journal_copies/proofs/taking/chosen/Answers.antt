use Rattle.std.proofs.Common.{ℕ, ◌+◌, Bool, true, false, List, drop, subst}
use Rattle.journal_book.specs.Entries.{Written}
use Rattle.resp_cache.specs.declared.pair.Pair.{Pair}
use Rattle.exchange_model.specs.Rotating.{Backed}
use Rattle.journal_copies.specs.Carrying.{GoesOn, backed_in, few_in}
use Rattle.journal_copies.proofs.Backs.{goes-further, goes-no-further}
use Rattle.journal_copies.proofs.taking.chosen.Goals as goal

pub returns-then-not-branch-clause-taken : goal.returns-then-not-branch-clause-taken
returns-then-not-branch-clause-taken g c =
    let t : ℕ = c.args.moment in
    let ws : List Written = c.args.journal.now.entries in
    let ps : List Pair = c.args.pairs.now in
    let rest : List Backed = backed_in t ws (drop (c.each.pair-index + 1) ps) in
    let h : GoesOn t ws rest c.pair-item.result c.each.choice c.take.new.trial c.take.new.choice false =
    subst (λ (b : Bool). GoesOn t ws rest c.pair-item.result c.each.choice c.take.new.trial c.take.new.choice b) c.if-not-branch.true (c.in_ok-take.ensures rest) in
    goes-no-further t ws ps c.each.pair-index c.each.choice (few_in t ws ps) c.pair-item.result c.take.new.trial c.take.new.choice
    c.each-test.true c.pair-item.is c.each.invariant.rest h

pub returns-then-not-branch-clause-marks : goal.returns-then-not-branch-clause-marks
returns-then-not-branch-clause-marks g c =
    let t : ℕ = c.args.moment in
    let ws : List Written = c.args.journal.now.entries in
    let rest : List Backed = backed_in t ws (drop (c.each.pair-index + 1) c.args.pairs.now) in
    let h : GoesOn t ws rest c.pair-item.result c.each.choice c.take.new.trial c.take.new.choice false =
    subst (λ (b : Bool). GoesOn t ws rest c.pair-item.result c.each.choice c.take.new.trial c.take.new.choice b) c.if-not-branch.true (c.in_ok-take.ensures rest) in
    h.0

pub each-preserved : goal.each-preserved
each-preserved g c =
    let t : ℕ = c.args.moment in
    let ws : List Written = c.args.journal.now.entries in
    let ps : List Pair = c.args.pairs.now in
    let rest : List Backed = backed_in t ws (drop (c.each.pair-index + 1) ps) in
    let h : GoesOn t ws rest c.pair-item.result c.each.choice c.take.new.trial c.take.new.choice true =
    subst (λ (b : Bool). GoesOn t ws rest c.pair-item.result c.each.choice c.take.new.trial c.take.new.choice b) c.if-not-branch.false (c.in_ok-take.ensures rest) in
    record {
      choice = h.0;
      rest =
          goes-further t ws ps c.each.pair-index c.each.choice (few_in t ws ps) c.pair-item.result c.take.new.trial c.take.new.choice
          c.each-test.true c.pair-item.is c.each.invariant.rest h;
    }
