use Rattle.std.proofs.Common.{◌≡◌, ◌∙◌, IfOk, ap, subst}
use Rattle.ask_model.specs.Requests.{Sense}
use Rattle.ask_model.specs.Views.{body_of, sense_of}
use Rattle.ask_model.specs.Validating.{IsValidating}
use Rattle.ask_model.proofs.OptionLengths.{validating_sent_len}
use Rattle.ask_model.proofs.Sendable.{meaning_sendable}
use Rattle.ask_model.proofs.mapped.Mapped.validate_request.Goals as goal

pub validating_of-requires-clause-sendable : goal.validating_of-requires-clause-sendable
validating_of-requires-clause-sendable g c =
    let mapping = c.args.self.now in
    meaning_sendable g.R.Relation.holds g.R.Relation.takes mapping.rules mapping.came mapping.sense c.meaning.result.now c.body_in.result.now c.meaning.ensures.maps c.meaning.ensures.sense (c.body_in.ensures ∙ ap body_of c.came.ensures.came)

pub returns-clause-sent : goal.returns-clause-sent
returns-clause-sent g c =
    let mapping = c.args.self.now in
    let sense : sense_of c.meaning.result.now c.body_in.result.now ≡ mapping.sense =
    ap (sense_of c.meaning.result.now) (c.body_in.ensures ∙ ap body_of c.came.ensures.came) ∙ c.meaning.ensures.sense in
    subst (λ (s : Sense). IfOk c.validating_of.result (λ o. IsValidating c.args.etag.now s c.args.mid c.args.token.now o)) sense c.validating_of.ensures

pub returns-clause-len : goal.returns-clause-len
returns-clause-len g c =
    let mapping = c.args.self.now in
    let sendable = meaning_sendable g.R.Relation.holds g.R.Relation.takes mapping.rules mapping.came mapping.sense c.meaning.result.now c.body_in.result.now c.meaning.ensures.maps c.meaning.ensures.sense (c.body_in.ensures ∙ ap body_of c.came.ensures.came) in
    validating_sent_len c.args.etag.now (sense_of c.meaning.result.now c.body_in.result.now) c.args.mid c.args.token.now c.validating_of.result c.requires.short sendable c.validating_of.ensures
