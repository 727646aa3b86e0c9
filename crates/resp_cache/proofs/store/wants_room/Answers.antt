use Rattle.std.proofs.Common.{◌∙◌, ◌&&◌, Option, ap, not, refl, sym}
use Rattle.std.specs.Prelude.{is_some}
use Rattle.resp_cache.specs.Stored.{is_never_fresh}
use Rattle.resp_cache.specs.declared.pair.Pair.{Pair}
use Rattle.resp_cache.proofs.Looking.{found_in, held, none_in}
use Rattle.resp_cache.proofs.store.wants_room.Goals as goal

pub returns-in-Some : goal.returns-in-Some
returns-in-Some c =
    let t = c.args.table.now in
    let some = rw c.deref.ensures.value at c.in-Some.ensures.some in
    let h = held c.args.key.now _ some in
    sym (ap (λ (o : Option Pair). not (is_some o) && not (is_never_fresh c.args.stored.now)) (found_in c.args.key.now t.slots.items t.ring.items t.names.items _ c.requires some ∙ h.1))

pub returns-in_default : goal.returns-in_default
returns-in_default c =
    let t = c.args.table.now in
    let none = rw c.deref.ensures.value at (c.in_default.ensures.none refl) in
    ap not c.is_never_fresh.ensures ∙ sym (ap (λ (o : Option Pair). not (is_some o) && not (is_never_fresh c.args.stored.now)) (none_in c.args.key.now t.slots.items t.ring.items none))
