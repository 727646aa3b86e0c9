use Rattle.std.proofs.Common.{◌≡◌, ℕ, List, Option, length, map, ap, sym, subst, ◌∙◌, arith}
use Rattle.journal_book.specs.Entries.{Written}
use Rattle.journal_book.specs.declared.entry.Mark.{Mark}
use Rattle.resp_cache.specs.Stores.{IsStore}
use Rattle.exchange_model.specs.Rotating.{Backed, carried_numbers, copies_with, pair_at, seen}
use Rattle.journal_copies.specs.declared.taking.Taken.{Taken}
use Rattle.journal_copies.specs.Carrying.{all_taken, taken_as}
use Rattle.journal_copies.proofs.Marked.{marks-length}
use Rattle.journal_copies.proofs.Keys.{store-carried}
use Rattle.journal_copies.proofs.turning.begin.Goals as goal

pub renumbered-requires : goal.renumbered-requires
renumbered-requires g c =
    let ws : List Written = c.args.journal.now.entries in
    let gs : List ℕ = carried_numbers (all_taken c.in_ok-choice.choice) in
    let few = c.requires.few in
    let long : length c.in_ok-choice.choice.marks.marks.items ≡ length ws =
    ap (λ (ms : List (Option Mark)). length ms) c.in_ok-choice.ensures.marks.marks
    ∙ marks-length c.args.moment (seen ws) gs 0 ws in
    omega (arith, few, long)

pub returns-clause-entries : goal.returns-clause-entries
returns-clause-entries g c =
    let t : ℕ = c.args.moment in
    let ws : List Written = c.args.journal.now.entries in
    c.in_ok-copies.ensures.entries t (carried_numbers (all_taken c.in_ok-choice.choice)) c.in_ok-choice.ensures.marks
    ∙ ap (λ (bs : List Backed). copies_with t ws (carried_numbers bs)) c.in_ok-choice.ensures.taken

pub returns-clause-pairs : goal.returns-clause-pairs
returns-clause-pairs g c =
    let t : ℕ = c.args.moment in
    let ws : List Written = c.args.journal.now.entries in
    let gs : List ℕ = carried_numbers (all_taken c.in_ok-choice.choice) in
    let copied = c.in_ok-copies.ensures.entries t gs c.in_ok-choice.ensures.marks in
    c.in_ok-pairs.ensures t ws gs c.in_ok-choice.ensures.marks
    ∙ (ap (λ (xs : List Taken). map (pair_at (copies_with t ws gs)) (map taken_as xs)) c.deref.ensures.value
    ∙ (ap (λ (cs : List Written). map (pair_at cs) (all_taken c.in_ok-choice.choice)) (sym copied)
    ∙ ap (λ (bs : List Backed). map (pair_at c.in_ok-copies.copies.journal.entries) bs) c.in_ok-choice.ensures.taken))

pub returns-clause-store : goal.returns-clause-store
returns-clause-store g c =
    let t : ℕ = c.args.moment in
    let ws : List Written = c.args.journal.now.entries in
    let cs : List Written = c.in_ok-copies.copies.journal.entries in
    subst IsStore (sym (returns-clause-pairs g c)) (store-carried t ws cs c.args.pairs.now c.requires.store)
