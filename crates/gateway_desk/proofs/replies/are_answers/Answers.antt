-- By each a piece is taken, and the last one ends them.
use Rattle.std.proofs.Common.{◌+◌, List, length, subst, sym, ap, ◌∙◌}
use Rattle.coap_codec.specs.Spelling.{entries}
use Rattle.coap_codec.specs.Recognition.{is_forwardable}
use Rattle.coap_codec.specs.declared.opt.Opt.{Opt}
use Rattle.gateway_desk.proofs.Whole.{AnswersAt, answers-last, answers-none, answers-on, answers-wrong}
use Rattle.gateway_desk.proofs.replies.are_answers.Goals as goal

pub returns-in-Last : goal.returns-in-Last
returns-in-Last c =
    answers-last (length c.args.body.now) c.each.upload c.args.messages.now c.each.i c.index-messages-i.result c.each-test.true
    c.index-messages-i.is (ap (λ (os : List Opt). is_forwardable (entries os)) (sym c.deref.ensures.value) ∙ (sym c.is_forwardable.ensures ∙ c.if-not-is_forwardable.false)) (sym c.judge.ensures.answer ∙ c.in-Last.is) c.each.invariant
