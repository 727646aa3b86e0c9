use Rattle.std.proofs.Common.{◌-◌, ◌≤◌, ◌∙◌, None, length, refl, arith}
use Rattle.std.proofs.Math.ListN.{set}
use Rattle.resp_cache.proofs.Slotted.{puts_set, slot_read}
use Rattle.resp_cache.proofs.table.empty_slot.Goals as goal

pub returns-clause-pair : goal.returns-clause-pair
returns-clause-pair c =
    let slots = c.args.slots.now.items in
    let le : c.args.slot ≤ length slots = omega (arith, c.requires.1, c.args.slots.now.ok) in
    c.take.ensures.value ∙ slot_read slots c.args.slot c.index_mut.result.now c.requires.0 le (rw c.from.ensures at c.index_mut.ensures.value)

pub returns-clause-puts : goal.returns-clause-puts
returns-clause-puts c =
    let slots = c.args.slots.now.items in
    let le : c.args.slot ≤ length slots = omega (arith, c.requires.1, c.args.slots.now.ok) in
    rw (c.from.ensures, c.take.ensures.after) (puts_set slots (set slots (c.args.slot - 1) None) c.args.slot None c.requires.0 le refl)
