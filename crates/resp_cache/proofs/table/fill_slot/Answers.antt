use Rattle.std.proofs.Common.{◌-◌, ◌≤◌, Some, length, refl, arith}
use Rattle.std.proofs.Math.ListN.{set}
use Rattle.resp_cache.proofs.Slotted.{puts_set}
use Rattle.resp_cache.proofs.table.fill_slot.Goals as goal

pub returns-clause-puts : goal.returns-clause-puts
returns-clause-puts c =
    let slots = c.args.slots.now.items in
    let le : c.args.slot ≤ length slots = omega (arith, c.requires.1, c.args.slots.now.ok) in
    rw c.from.ensures (puts_set slots (set slots (c.args.slot - 1) (Some c.args.pair)) c.args.slot (Some c.args.pair) c.requires.0 le refl)
