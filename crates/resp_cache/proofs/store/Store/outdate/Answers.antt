use Rattle.resp_cache.proofs.Keeping.{store_is}
use Rattle.resp_cache.proofs.store.Store.outdate.Goals as goal

pub returns-clause-few : goal.returns-clause-few
returns-clause-few c =
    let t = c.drop_sought.new.table in
    (store_is t.slots.items t.ring.items t.names.items c.drop_sought.ensures.table).few
