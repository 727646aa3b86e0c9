use Rattle.std.proofs.Common.{◌∙◌, ap}
use Rattle.ask_model.specs.Views.{body_of}
use Rattle.ask_model.proofs.Sendable.{meaning_sendable}
use Rattle.ask_model.proofs.mapped.Mapped.body.Goals as goal

pub returns-in-Ask-clause-short : goal.returns-in-Ask-clause-short
returns-in-Ask-clause-short g c =
    let mapping = c.args.self.now in
    let all = meaning_sendable g.R.Relation.holds g.R.Relation.takes mapping.rules mapping.came mapping.sense c.meaning.result.now c.body_in.result.now c.meaning.ensures.maps c.meaning.ensures.sense (c.body_in.ensures ∙ ap body_of c.came.ensures.came) in
    let fits = rw c.in-Ask.is at all in
    rw c.bytes_of.ensures fits.body
