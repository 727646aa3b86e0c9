-- The last answer is the response.
use Rattle.std.proofs.Common.{◌≡◌, true, List, length, map, rules, sym, ap, ◌∙◌}
use Rattle.std.specs.Prelude.{is_some}
use Rattle.coap_codec.specs.Spelling.{content}
use Rattle.coap_codec.specs.declared.message.Message.{Message}
use Rattle.blockwise.specs.Uploads.{begun}
use Rattle.history_laws.specs.Responses.{whole_given}
use Rattle.reply_reading.specs.Findings.{Found}
use Rattle.gateway_desk.proofs.Whole.{answered-so}
use Rattle.gateway_desk.proofs.replies.is_answered.Goals as goal

pub returns : goal.returns
returns c =
    let len = length c.args.body.now in
    let yes : c.are_answers.result ≡ true = search rules in
    let gives = sym (ap (λ (ms : List Message). is_some (whole_given (begun len 6) (map content ms))) c.deref.ensures.value) ∙ (sym c.are_answers.ensures ∙ yes) in
    let same = answered-so (begun len 6) c.args.messages.items c.pop.new.self.items c.in-Some.last c.args.response.now c.in-Some.ensures.items gives in
    let told = ap (λ (f : Found). f.told) c.in_ok-finding.ensures in
    ((λ is. same.0 (sym told ∙ c.is_told.ensures.0 is)), (λ e. c.is_told.ensures.1 (told ∙ same.1 e)))
