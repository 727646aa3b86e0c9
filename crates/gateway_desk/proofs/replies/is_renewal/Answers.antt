-- The pieces and the 2.03 behind them are what the two findings tell.
use Rattle.std.proofs.Common.{◌≡◌, true, false, List, map, rules, sym, ap, ◌∙◌}
use Rattle.std.specs.Prelude.{is_some}
use Rattle.std.specs.List.{list_all}
use Rattle.std.proofs.lemmas.Bool.{false≢true}
use Rattle.coap_codec.specs.Spelling.{content}
use Rattle.coap_codec.specs.declared.message.Message.{Message}
use Rattle.blockwise.specs.Downloads.{given, nothing}
use Rattle.history_laws.specs.Responses.{is_tellable}
use Rattle.reply_reading.specs.Findings.{Found}
use Rattle.gateway_desk.specs.Shown.{ends_valid}
use Rattle.gateway_desk.proofs.Renewals.{not-ends, not-gives, not-tells, renewal-is}
use Rattle.gateway_desk.proofs.replies.is_renewal.Goals as goal

pub returns-then-not-ends_valid : goal.returns-then-not-ends_valid
returns-then-not-ends_valid c =
    let no : c.ends_valid.result ≡ false = search rules in
    let ends = sym (ap (λ (ms : List Message). ends_valid (map content ms)) c.deref.ensures.value) ∙ (sym c.ends_valid.ensures ∙ no) in
    ((λ is. absurd (false≢true is)), (λ r. absurd (not-ends c.args.messages.items c.args.response.now ends r)))

pub returns-then-not-are_tellable : goal.returns-then-not-are_tellable
returns-then-not-are_tellable c =
    let no : c.are_tellable.result ≡ false = search rules in
    let tells = sym (ap (λ (ms : List Message). list_all is_tellable (map content ms)) c.deref-2.ensures.value) ∙ (sym c.are_tellable.ensures ∙ no) in (
      (λ is. absurd (false≢true is)),
      (λ r. absurd (not-tells c.args.messages.items c.pop.new.self.items c.in-Some.valid c.args.response.now c.in-Some.ensures.items tells r)),
    )

pub returns-then-not-are_pieces : goal.returns-then-not-are_pieces
returns-then-not-are_pieces c =
    let no : c.are_pieces.result ≡ false = search rules in
    let gives = sym (ap (λ (ms : List Message). is_some (given nothing (map content ms))) c.deref-3.ensures.value) ∙ (sym c.are_pieces.ensures ∙ no) in (
      (λ is. absurd (false≢true is)),
      (λ r. absurd (not-gives c.args.messages.items c.pop.new.self.items c.in-Some.valid c.args.response.now c.in-Some.ensures.items gives r)),
    )

pub returns : goal.returns
returns c =
    let ends_yes : c.ends_valid.result ≡ true = search rules in
    let told_yes : c.are_tellable.result ≡ true = search rules in
    let given_yes : c.are_pieces.result ≡ true = search rules in
    let ends = sym (ap (λ (ms : List Message). ends_valid (map content ms)) c.deref.ensures.value) ∙ (sym c.ends_valid.ensures ∙ ends_yes) in
    let tells = sym (ap (λ (ms : List Message). list_all is_tellable (map content ms)) c.deref-2.ensures.value) ∙ (sym c.are_tellable.ensures ∙ told_yes) in
    let gives = sym (ap (λ (ms : List Message). is_some (given nothing (map content ms))) c.deref-3.ensures.value) ∙ (sym c.are_pieces.ensures ∙ given_yes) in
    renewal-is c.args.messages.items c.pop.new.self.items c.pop-2.new.self.items c.in-Some.valid c.in-Some-pop.last c.args.response.now
    c.in_ok-said.said.told c.in_ok-by.by.told c.tells_renewed.result c.in-Some.ensures.items c.in-Some-pop.ensures.items ends tells gives
    (ap (λ (f : Found). f.told) c.in_ok-said.ensures) (ap (λ (f : Found). f.told) c.in_ok-by.ensures) c.tells_renewed.ensures
