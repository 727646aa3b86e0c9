use Rattle.std.proofs.Common.{◌∙◌, ap, refl, sym}
use Rattle.cache_key.specs.Keys.{CacheKey}
use Rattle.resp_cache.specs.Stores.{others}
use Rattle.resp_cache.specs.Tables.{pairs_of}
use Rattle.resp_cache.proofs.Looking.{held, none_out}
use Rattle.resp_cache.proofs.table.drop_sought.Goals as goal

pub returns-in-Some-clause-pairs : goal.returns-in-Some-clause-pairs
returns-in-Some-clause-pairs c =
    let t = c.args.table.now in
    let some = rw c.deref.ensures.value at c.in-Some.ensures.some in
    let h = held c.args.sought.now _ some in
    c.vacate.ensures.pairs h.0 h.1 ∙ ap (λ (k : CacheKey). others k (pairs_of t)) h.2

pub returns-in_default-clause-pairs : goal.returns-in_default-clause-pairs
returns-in_default-clause-pairs c =
    let t = c.args.table.now in
    let none = rw c.deref.ensures.value at (c.in_default.ensures.none refl) in
    sym (none_out c.args.sought.now t.slots.items t.ring.items none)
