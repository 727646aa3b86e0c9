use Rattle.std.proofs.Common.{◌≡◌, ℕ, Bool, true, List, ◌++◌, Option, Some, option_map, ap, subst, sym, ◌∙◌}
use Rattle.journal_book.specs.Entries.{Written}
use Rattle.resp_cache.specs.Stored.{is_fresh}
use Rattle.resp_cache.specs.declared.pair.Pair.{Pair}
use Rattle.exchange_model.specs.Backing.{backing}
use Rattle.exchange_model.specs.Rotating.{Backed, are_few, backed_by, backed_if, carried_numbers, copies_with}
use Rattle.journal_copies.specs.declared.taking.Choice.{Choice}
use Rattle.journal_copies.specs.declared.taking.Taken.{Taken}
use Rattle.journal_copies.specs.Marking.{AreMarks}
use Rattle.journal_copies.specs.Carrying.{all_taken}
use Rattle.journal_copies.proofs.Backs.{chosen-more}
use Rattle.journal_copies.proofs.taking.take.Goals as goal

pub returns : goal.returns
returns g c = λ bs.
    let t : ℕ = c.args.moment in
    let ws : List Written = c.args.journal.now.entries in
    let p : Pair = c.args.pair.now in
    let old : Choice = c.args.choice.now in
    let ns : List ℕ = c.in-Some.numbers.items in
    let gs : List ℕ = carried_numbers (all_taken old) in
    let b : Backed = record { pair = p; numbers = ns } in
    let new : Choice = record { marks = c.mark_few.new.marks; taken = c.push.new.self } in
    let x : Taken = record { pair = c.in_ok-pair.pair; numbers = c.in-Some.numbers } in
    let fresh : is_fresh t p.stored ≡ true = sym c.is_fresh.ensures ∙ c.if-not-is_fresh.false in
    let found : backing ws p.stored ≡ Some ns =
    sym (c.in_ok-numbers.ensures ws c.requires.traced) ∙ ap (option_map _) c.in-Some.is in
    chosen-more t ws bs p old c.mark_few.new.trial b new x
    (ap (λ (f : Bool). backed_if f ws p) fresh ∙ ap (λ (o : Option (List ℕ)). backed_by p o) found)
    (subst (λ (ks : List ℕ). are_few (copies_with t ws (gs ++ ks)) ≡ true) c.deref.ensures.value
    (sym (c.if-not-mark_few.ensures.few t gs c.requires.choice.tried)))
    c.in_ok-push.ensures.items
    (ap (λ (q : Pair). record { pair = q; numbers = ns }) c.in_ok-pair.ensures)
    (subst (λ (ks : List ℕ). AreMarks t ws (gs ++ ks) c.mark_few.new.trial) c.deref.ensures.value
    (c.if-not-mark_few.ensures.trial t gs c.requires.choice.tried))
    (subst (λ (ks : List ℕ). AreMarks t ws (gs ++ ks) c.mark_few.new.marks) c.deref.ensures.value
    (c.if-not-mark_few.ensures.marks t gs c.requires.choice.marks))
