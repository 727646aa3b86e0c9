use Rattle.std.proofs.Common.{◌≡◌, ℕ, ◌+◌, [], ◌∷◌, ◌++◌, List, length, take, ap, sym, subst, ◌∙◌, arith, inl, take_all}
use Rattle.std.proofs.lemmas.List.{length-take-le}
use Rattle.journal_book.specs.Entries.{Written, done_of}
use Rattle.journal_book.specs.Views.{item_of}
use Rattle.journal_book.proofs.Filled.{first-more}
use Rattle.journal_copies.specs.Tracing.{Awaits, Traced}
use Rattle.journal_copies.proofs.Replied.{awaits-next, told-next, told_from, traced-all}
use Rattle.journal_copies.proofs.traces.Traces.of.Goals as goal

pub unreachable-requires : goal.unreachable-requires
unreachable-requires g c =
    let past = c.in_default.ensures.entry (inl (omega (arith, c.requires.whole))) in
    omega (arith, past, c.each-test.true, c.len-number-end.ensures)

pub each-preserved : goal.each-preserved
each-preserved g c =
    let es : List Written = c.args.journal.now.entries in
    let n : ℕ = c.each.number in
    let ws : List Written = take n es in
    let w : Written = item_of c.in-Some.entry.now in
    let next : take (n + 1) es ≡ ws ++ w ∷ [] = first-more es n w c.in-Some.ensures.entry in
    let below = c.each-test.true in
    let end = c.len-number-end.ensures in
    let len : length ws ≡ n = length-take-le n es (omega (arith, below, end)) in
    let traced : Traced n (done_of w.deed) ws c.note.new.self.sendings c.in_ok-note.field-0 =
    c.in_ok-note.ensures ws c.each.invariant.awaits in
    record {
      awaits =
          subst (λ (vs : List Written). Awaits c.note.new.self.sendings vs) (sym next)
          (awaits-next c.note.new.self.sendings n ws w c.in_ok-note.field-0 len traced);
      told =
          c.in_ok-push.ensures.items
          ∙ (told-next ws w c.each.replied.items c.in_ok-note.field-0 c.each.invariant.told traced.told_is
          ∙ ap (told_from []) (sym next));
    }

pub returns : goal.returns
returns g c =
    let es : List Written = c.args.journal.now.entries in
    let past = c.each-test.false in
    let end = c.len-number-end.ensures in
    traced-all es c.each.replied.items
    (c.each.invariant.told ∙ ap (told_from []) (take_all c.each.number es (omega (arith, past, end))))
