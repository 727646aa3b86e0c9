use Rattle.std.proofs.Common.{◌≡◌, ◌∙◌, None, find, refl, rules, sym}
use Rattle.resp_cache.specs.Stores.{is_of}
use Rattle.resp_cache.specs.Tables.{pairs_of}
use Rattle.resp_cache.proofs.Looking.{found_in, none_in}
use Rattle.resp_cache.proofs.store.pair_under.Goals as goal

pub returns-in_err-slot : goal.returns-in_err-slot
returns-in_err-slot c =
    let t = c.args.table.now in
    let none = rw c.deref.ensures.value at (c.in_err-slot.ensures.none refl) in
    let nothing : find (is_of c.args.sought.now) (pairs_of t) ≡ None =
    none_in c.args.sought.now t.slots.items t.ring.items none in
    rw nothing (search rules)

pub returns : goal.returns
returns c =
    let t = c.args.table.now in
    let some = rw c.deref.ensures.value at c.in_ok-slot.ensures.some in
    rw c.deref-3.ensures.value at c.pair_at.ensures
    ∙ sym (found_in c.args.sought.now t.slots.items t.ring.items t.names.items c.in_ok-slot.slot c.requires some)
