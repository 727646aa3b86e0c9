use Rattle.std.proofs.Common.{◌≡◌, ◌∙◌, IfOk, ap, subst, sym}
use Rattle.ask_model.specs.Requests.{Sense}
use Rattle.ask_model.specs.Views.{Rules, body_of, sense_of}
use Rattle.ask_model.specs.Observing.{IsObserving}
use Rattle.ask_model.proofs.OptionLengths.{observing_sent_len}
use Rattle.ask_model.proofs.Sendable.{meaning_sendable}
use Rattle.ask_model.proofs.mapped.Mapped.observe_request.Goals as goal

pub observing_of-requires : goal.observing_of-requires
observing_of-requires g c =
    let mapping = c.args.self.now in
    record {
      sendable = meaning_sendable g.R.Relation.holds g.R.Relation.takes mapping.rules mapping.came mapping.sense c.meaning.result.now c.body_in.result.now c.meaning.ensures.maps c.meaning.ensures.sense (c.body_in.ensures ∙ ap body_of c.came.ensures.came);
    }

pub returns-clause-sent : goal.returns-clause-sent
returns-clause-sent g c =
    let mapping = c.args.self.now in
    let sense : sense_of c.meaning.result.now c.body_in.result.now ≡ mapping.sense =
    ap (sense_of c.meaning.result.now) (c.body_in.ensures ∙ ap body_of c.came.ensures.came) ∙ c.meaning.ensures.sense in
    let names : mapping.rules.observed ≡ c.as_slice.result.now =
    sym (c.as_slice.ensures ∙ (ap (λ s. s.observed) c.deref.ensures ∙ ap (λ (r : Rules). r.observed) c.settings.ensures)) in
    subst (λ (s : Sense). IfOk c.observing_of.result (λ o. IsObserving mapping.rules s c.args.mid c.args.token.now o)) sense (c.observing_of.ensures mapping.rules names)

pub returns-clause-len : goal.returns-clause-len
returns-clause-len g c =
    let mapping = c.args.self.now in
    let names : mapping.rules.observed ≡ c.as_slice.result.now =
    sym (c.as_slice.ensures ∙ (ap (λ s. s.observed) c.deref.ensures ∙ ap (λ (r : Rules). r.observed) c.settings.ensures)) in
    let sendable = meaning_sendable g.R.Relation.holds g.R.Relation.takes mapping.rules mapping.came mapping.sense c.meaning.result.now c.body_in.result.now c.meaning.ensures.maps c.meaning.ensures.sense (c.body_in.ensures ∙ ap body_of c.came.ensures.came) in
    observing_sent_len mapping.rules (sense_of c.meaning.result.now c.body_in.result.now) c.args.mid c.args.token.now c.observing_of.result sendable (c.observing_of.ensures mapping.rules names)
