-- One note after the other is looked at.
use Rattle.std.proofs.Common.{sym, ◌∙◌}
use Rattle.gateway_desk.specs.Lines.{line_of}
use Rattle.gateway_desk.proofs.Looks.{look_first, look_on}
use Rattle.gateway_desk.proofs.standing.early.Goals as goal

pub each-init : goal.each-init
each-init g c = look_first line_of c.args.notes.now

pub each-preserved : goal.each-preserved
each-preserved g c =
    look_on line_of c.args.notes.now c.each.note-index c.each.from c.in-Some.next c.note-item.result c.each-test.true c.note-item.is
    (sym c.next_from.ensures ∙ c.in-Some.is) c.each.invariant
