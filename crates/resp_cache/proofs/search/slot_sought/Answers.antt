use Rattle.std.proofs.Common.{◌≡◌, ◌+◌, ◌∙◌, ℕ, false, refl, arith}
use Rattle.std.specs.List.{AllByRecursion}
use Rattle.std.specs.Prelude.{filter}
use Rattle.cache_key.specs.Digests.{rank_of}
use Rattle.resp_cache.specs.Names.{ranks_within}
use Rattle.resp_cache.specs.Slots.{holds, slot_at}
use Rattle.resp_cache.specs.declared.names.Named.{Named}
use Rattle.resp_cache.proofs.Naming.{all-found, key_inside, none-passes}
use Rattle.resp_cache.proofs.search.slot_sought.Goals as goal

pub returns-clause-none : goal.returns-clause-none
returns-clause-none c = λ none.
    let key = c.args.sought.now in
    let slots = c.args.slots.now in
    let names = c.args.names.now in
    let r : ℕ = c.from-rank.result in
    let is : r ≡ rank_of key = c.from-rank.ensures ∙ c.rank.ensures in
    let row : AllByRecursion (λ (n : Named). holds key (slot_at slots n.slot) ≡ false) c.row_of-name-items.result.now =
    all-found (λ (n : Named). holds key (slot_at slots n.slot) ≡ false) c.row_of-name-items.result.now (λ k d lt. c.each.invariant k d (omega (arith, lt, c.each.auto.name-index-end, c.each-test.false))) in
    let all : AllByRecursion (λ (n : Named). holds key (slot_at slots n.slot) ≡ false) (filter (ranks_within r (r + 1)) names) = rw c.row_of-name-items.ensures at row in
    none-passes slots names r (r + 1) (holds key) c.requires refl (λ p. key_inside key p r is) all
