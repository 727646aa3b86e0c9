use Rattle.std.proofs.Common.{subst}
use Rattle.resp_cache.specs.Stores.{IsStore, StoreValue}
use Rattle.resp_cache.proofs.Keeping.{store_is}
use Rattle.resp_cache.proofs.store.Store.len.Goals as goal

pub returns-clause-store : goal.returns-clause-store
returns-clause-store c =
    let t = c.self.inside.table in
    subst (λ (v : StoreValue). IsStore v.pairs) c.self.view_is (store_is t.slots.items t.ring.items t.names.items c.self.invariant)
