use Rattle.std.proofs.Common.{◌∙◌, ap, Option, sym}
use Rattle.resp_cache.specs.Stores.{with_first}
use Rattle.resp_cache.specs.Tables.{pairs_of}
use Rattle.resp_cache.specs.declared.pair.Pair.{Pair}
use Rattle.resp_cache.proofs.Looking.{fresh_found, some_of}
use Rattle.resp_cache.proofs.store.Store.touch.Goals as goal

pub returns-in-Some : goal.returns-in-Some
returns-in-Some c =
    let t = c.self.inside.table in
    let ps = pairs_of t in
    let h = some_of _ c.in-Some.ensures.some.1 in
    let passes = rw h.1 at c.in-Some.ensures.some.0 in
    let found = fresh_found c.args.sought.now c.args.moment t.slots.items t.ring.items t.names.items c.in-Some.slot h.0 c.self.invariant h.1 passes in
    let made = c.use_slot.ensures.pairs h.0 h.1 ∙ sym (ap (λ (o : Option Pair). with_first o ps) found) in
    let room = c.use_slot.ensures.room in
    rw (← c.self.view_is) (λ i. record { pairs = made i; room = room i })
