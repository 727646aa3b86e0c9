-- Which of them it may be is told by the last of the messages.
use Rattle.std.proofs.Common.{◌≡◌, true, false, eqb, List, length, map, rules, sym, ap, ◌∙◌}
use Rattle.coap_codec.specs.Spelling.{content}
use Rattle.coap_codec.specs.declared.message.Message.{Message}
use Rattle.gateway_desk.specs.Shown.{ends_valid}
use Rattle.gateway_desk.proofs.Renewals.{answered-by, fetched-so, renewal-so}
use Rattle.gateway_desk.proofs.replies.are_response.Goals as goal

pub returns-then-ends_valid : goal.returns-then-ends_valid
returns-then-ends_valid c =
    let get : c.args.method ≡ 1 = search rules in
    let yes : c.ends_valid.result ≡ true = search rules in
    let ends = sym (ap (λ (ms : List Message). ends_valid (map content ms)) c.deref.ensures.value) ∙ (sym c.ends_valid.ensures ∙ yes) in
    renewal-so c.is_renewal.result c.args.method (length c.args.body.now) (map content c.args.messages.items) c.args.response.now get ends c.is_renewal.ensures

pub returns : goal.returns
returns c =
    let get : c.args.method ≡ 1 = search rules in
    let no : c.ends_valid.result ≡ false = search rules in
    let ends = sym (ap (λ (ms : List Message). ends_valid (map content ms)) c.deref.ensures.value) ∙ (sym c.ends_valid.ensures ∙ no) in
    fetched-so c.is_fetched.result c.args.method (length c.args.body.now) (map content c.args.messages.items) c.args.response.now get ends c.is_fetched.ensures
