use Rattle.std.proofs.Common.{◌≡◌, ◌+◌, ◌<◌, ◌∷◌, ◌++◌, List, length, take, drop, sym, ap, subst, ◌∙◌, append_assoc, arith}
use Rattle.journal_book.specs.Entries.{Deed}
use Rattle.endpoint_table.specs.declared.turns.Turn.{Turn}
use Rattle.endpoint_table.specs.Turns.{deeds_of, turns_deeds}
use Rattle.exchange_core.specs.Drafts.{Drafts}
use Rattle.exchange_core.specs.Turns.{AreTimed}
use Rattle.exchange_core.proofs.TickDue.{drop-at}
use Rattle.exchange_core.proofs.TickTurns.{room-step, turns-take}
use Rattle.exchange_core.proofs.turns.draft_turns.Goals as goal

pub each-preserved : goal.each-preserved
each-preserved g c =
    let t = c.args.moment in
    let i = c.each.place in
    let ks = c.args.turns.now.items in
    let k : Turn = c.index-turn.result.now in
    let test = c.each-test.true in
    let end = c.len-place-end.ensures in
    let n = c.args.turns.now.ok.0 in
    let lt : i < length ks = omega (arith, test, end, n) in
    let left : drop i ks ≡ k ∷ drop (i + 1) ks = drop-at ks i k lt c.index-turn.ensures in
    let e = c.in_ok-draft_turn.ensures in
    let timed : AreTimed (k ∷ drop (i + 1) ks) = subst AreTimed left c.each.invariant.timed in
    record {
      timed = timed.1;
      room = room-step c.each.draft.next c.draft_turn.new.draft.next k (drop (i + 1) ks)
          (drop i ks) left e.next 4294967295 c.each.invariant.room;
      drafts = λ S ds h.
          subst (λ (es : List Deed). Drafts t S es c.draft_turn.new.draft)
          (append_assoc ds (turns_deeds (take i ks)) (deeds_of k.peer k.ticking)
          ∙ ap (λ (es : List Deed). ds ++ es) (sym (turns-take ks i k lt c.index-turn.ensures)))
          (e.drafts S (ds ++ turns_deeds (take i ks)) (c.each.invariant.drafts S ds h));
      answers = e.answers ∙ c.each.invariant.answers;
    }
