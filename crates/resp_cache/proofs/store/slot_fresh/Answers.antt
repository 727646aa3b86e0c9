use Rattle.std.proofs.Common.{◌≡◌, ◌∙◌, Some, find, refl, sym}
use Rattle.resp_cache.specs.Stores.{is_of}
use Rattle.resp_cache.specs.Tables.{pairs_of}
use Rattle.resp_cache.proofs.Looking.{found_in, none_in, served_none, served_not}
use Rattle.resp_cache.proofs.store.slot_fresh.Goals as goal

pub returns-in_err-slot-clause-none : goal.returns-in_err-slot-clause-none
returns-in_err-slot-clause-none c = λ nothing.
    let t = c.args.table.now in
    let none = rw c.deref.ensures.value at (c.in_err-slot.ensures.none refl) in
    served_none c.args.sought.now c.args.moment (pairs_of t) c.requires.apart (none_in c.args.sought.now t.slots.items t.ring.items none)

pub returns-else-is_fresh-clause-none : goal.returns-else-is_fresh-clause-none
returns-else-is_fresh-clause-none c = λ nothing.
    let t = c.args.table.now in
    let some = rw c.deref.ensures.value at c.in_ok-slot.ensures.some in
    let here = rw c.deref-3.ensures.value at c.in_ok-found.ensures in
    let found : find (is_of c.args.sought.now) (pairs_of t) ≡ Some c.in_ok-found.found.now = found_in c.args.sought.now t.slots.items t.ring.items t.names.items c.in_ok-slot.slot c.requires some ∙ sym here in
    served_not c.args.sought.now c.args.moment (pairs_of t) c.in_ok-found.found.now c.requires.apart found (sym c.if-is_fresh.ensures)
