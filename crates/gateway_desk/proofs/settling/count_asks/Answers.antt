-- The asks are the entries that ask.
use Rattle.std.proofs.Common.{◌≡◌, ℕ, ◌+◌, List, arith, ap, get_or, length, sym, take, ◌∙◌}
use Rattle.std.specs.Prelude.{count_by}
use Rattle.std.proofs.lemmas.List.{take_all}
use Rattle.std.proofs.lemmas.List.Sums.{count_by_more_no, count_by_more_yes}
use Rattle.std.proofs.lemmas.Option.{get_or_from_slice_get, slice_get_within}
use Rattle.journal_book.specs.Entries.{Written}
use Rattle.journal_book.specs.Views.{item_of}
use Rattle.gateway_desk.specs.Running.{is_ask}
use Rattle.gateway_desk.proofs.Sums.{asks_counted}
use Rattle.gateway_desk.proofs.settling.count_asks.Goals.{then-is_ask, else-is_ask}
use Rattle.gateway_desk.proofs.settling.count_asks.Goals as goal

pub unreachable-requires : goal.unreachable-requires
unreachable-requires g c =
    omega (arith, c.in_default.ensures, c.each-test.true, c.len-number-end.ensures)

pub each-preserved : goal.each-preserved
each-preserved g c =
    let es : List Written = c.args.journal.now.entries in
    let n : ℕ = c.each.number in
    let w : Written = item_of c.in-Some.entry.now in
    let below = slice_get_within es n w c.in-Some.ensures in
    let there : get_or es n w ≡ w = get_or_from_slice_get es n w w c.in-Some.ensures in
    let asked = ap is_ask there ∙ sym c.is_ask.ensures in
    let few = c.each.invariant.few in
    elim c.if-is_ask.branch [
      | then-is_ask b ↦ record {
        counted =
            b.asks-is ∙ ap (λ (k : ℕ). k + 1) c.each.invariant.counted
            ∙ sym (count_by_more_yes is_ask es n w below (asked ∙ b.if-is_ask.true));
        few = let more = b.asks-is in omega (arith, more, few);
      }
      | else-is_ask b ↦ record {
        counted =
            b.asks-is ∙ c.each.invariant.counted
            ∙ sym (count_by_more_no is_ask es n w below (asked ∙ b.if-is_ask.false));
        few = let same = b.asks-is in omega (arith, same, few);
      }
    ]

pub returns : goal.returns
returns g c =
    let es : List Written = c.args.journal.now.entries in
    c.each.invariant.counted
    ∙ ap (count_by is_ask)
    (take_all c.each.number es (omega (arith, c.each-test.false, c.len-number-end.ensures)))
    ∙ sym (asks_counted es)
