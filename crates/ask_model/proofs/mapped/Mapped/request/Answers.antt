use Rattle.std.proofs.Common.{◌∙◌, ap}
use Rattle.ask_model.specs.Views.{body_of, sense_of}
use Rattle.ask_model.proofs.OptionLengths.{sent_len}
use Rattle.ask_model.proofs.Sendable.{meaning_sendable}
use Rattle.ask_model.proofs.mapped.Mapped.request.Goals as goal

pub datagram_of-requires-clause-sendable : goal.datagram_of-requires-clause-sendable
datagram_of-requires-clause-sendable g c =
    let mapping = c.args.self.now in
    meaning_sendable g.R.Relation.holds g.R.Relation.takes mapping.rules mapping.came mapping.sense c.meaning.result.now c.body_in.result.now c.meaning.ensures.maps c.meaning.ensures.sense (c.body_in.ensures ∙ ap body_of c.came.ensures.came)

pub returns-clause-len : goal.returns-clause-len
returns-clause-len g c =
    let mapping = c.args.self.now in
    let sendable = meaning_sendable g.R.Relation.holds g.R.Relation.takes mapping.rules mapping.came mapping.sense c.meaning.result.now c.body_in.result.now c.meaning.ensures.maps c.meaning.ensures.sense (c.body_in.ensures ∙ ap body_of c.came.ensures.came) in
    sent_len (sense_of c.meaning.result.now c.body_in.result.now) c.args.block c.args.mid c.args.token.now c.datagram_of.result sendable c.requires.szx c.datagram_of.ensures
