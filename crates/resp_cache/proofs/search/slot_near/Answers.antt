use Rattle.std.proofs.Common.{◌≡◌, ◌+◌, ◌*◌, ◌/◌, ◌∙◌, ℕ, ap, false, refl, arith}
use Rattle.std.specs.List.{AllByRecursion}
use Rattle.std.specs.Prelude.{filter}
use Rattle.cache_key.specs.Digests.{rank_of}
use Rattle.resp_cache.specs.Names.{ranks_within}
use Rattle.resp_cache.specs.Slots.{holds_near, slot_at}
use Rattle.resp_cache.specs.declared.names.Named.{Named}
use Rattle.resp_cache.proofs.Naming.{all-found, near_inside, none-passes}
use Rattle.resp_cache.proofs.search.slot_near.Goals as goal

pub returns-clause-none : goal.returns-clause-none
returns-clause-none c = λ none.
    let key = c.args.changed.now in
    let slots = c.args.slots.now in
    let names = c.args.names.now in
    let r : ℕ = c.from-row.result in
    let is : r ≡ rank_of key / 65536 = c.from-row.ensures ∙ ap (λ (n : ℕ). n / 65536) c.rank.ensures in
    let row : AllByRecursion (λ (n : Named). holds_near key (slot_at slots n.slot) ≡ false) c.row_of-name-items.result.now =
    all-found (λ (n : Named). holds_near key (slot_at slots n.slot) ≡ false) c.row_of-name-items.result.now (λ k d lt. c.each.invariant k d (omega (arith, lt, c.each.auto.name-index-end, c.each-test.false))) in
    let all : AllByRecursion (λ (n : Named). holds_near key (slot_at slots n.slot) ≡ false) (filter (ranks_within (r * 65536) (r * 65536 + 65536)) names) = rw c.row_of-name-items.ensures at row in
    none-passes slots names (r * 65536) (r * 65536 + 65536) (holds_near key) c.requires refl (λ p. near_inside key p r is) all
