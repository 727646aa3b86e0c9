-- What is written is what a response says that means what the request came to.
use Rattle.std.proofs.Common.{◌≡◌, sym}
use Rattle.std.specs.Arc.{arc_value}
use Rattle.reply_reading.specs.Findings.{Fails, Tells}
use Rattle.http_mapping.proofs.Meanings.{fault_writes, whole_writes}
use Rattle.http_mapping.proofs.rendering.render.Goals as goal

pub returns-in-Whole : goal.returns-in-Whole
returns-in-Whole g c =
    let f = c.args.finding.now in
    let w = arc_value c.in-Whole.response in
    let told : f.told ≡ Tells w = rw c.in-Whole.is at (sym c.outcome.ensures.told) in
    whole_writes _ g.R.Relation.holds g.R.Relation.takes c.args.mapped.now f c.args.age w c.last_reply.result c.show_whole.result told c.last_reply.ensures
    (rw c.deref.ensures at c.show_whole.ensures)

pub returns-in-Fault : goal.returns-in-Fault
returns-in-Fault g c =
    let f = c.args.finding.now in
    let told : f.told ≡ Fails c.in-Fault.cause = rw c.in-Fault.is at (sym c.outcome.ensures.told) in
    let grounds = c.number_named.ensures c.in-Fault.cause (rw told at c.outcome.ensures.fits) in
    fault_writes _ g.R.Relation.holds g.R.Relation.takes c.args.mapped.now f c.args.age c.in-Fault.cause c.number_named.result c.tell.result told grounds c.tell.ensures
