-- All pieces are what they join to.
use Rattle.std.proofs.Common.{◌≡◌, true, List, map, rules, sym, ap, ◌∙◌}
use Rattle.std.specs.Prelude.{is_some}
use Rattle.std.specs.List.{list_all}
use Rattle.coap_codec.specs.Spelling.{content}
use Rattle.coap_codec.specs.declared.message.Message.{Message}
use Rattle.blockwise.specs.Downloads.{given, nothing}
use Rattle.history_laws.specs.Responses.{is_tellable}
use Rattle.reply_reading.specs.Findings.{Found}
use Rattle.gateway_desk.proofs.Whole.{fetched-so}
use Rattle.gateway_desk.proofs.replies.is_fetched.Goals as goal

pub returns : goal.returns
returns c =
    let told_yes : c.are_tellable.result ≡ true = search rules in
    let given_yes : c.are_pieces.result ≡ true = search rules in
    let tells = sym (ap (λ (ms : List Message). list_all is_tellable (map content ms)) c.deref.ensures.value) ∙ (sym c.are_tellable.ensures ∙ told_yes) in
    let gives = sym (ap (λ (ms : List Message). is_some (given nothing (map content ms))) c.deref-2.ensures.value) ∙ (sym c.are_pieces.ensures ∙ given_yes) in
    let same = fetched-so c.args.messages.items c.pop.new.self.items c.in-Some.last c.args.response.now c.in-Some.ensures.items tells gives in
    let told = ap (λ (f : Found). f.told) c.in_ok-finding.ensures in
    ((λ is. same.0 (sym told ∙ c.is_told.ensures.0 is)), (λ e. c.is_told.ensures.1 (told ∙ same.1 e)))
