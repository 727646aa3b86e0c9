use Rattle.std.proofs.Common.{ℕ, List, subst}
use Rattle.coap_codec.specs.Writing.{AppendsOption}
use Rattle.uri_map.specs.Limits.{option_with, options_with}
use Rattle.ask_model.proofs.Written.{appends_text, appended_all}
use Rattle.ask_model.proofs.writing.append_texts.Goals as goal

pub each-preserved : goal.each-preserved
each-preserved c =
    let more = subst (λ (v : List ℕ). AppendsOption c.each.last (option_with c.args.number v) c.each.out.items c.append_option.new.out.items) c.as_bytes.ensures c.in_ok-append_option.ensures in
    appends_text c.args.before c.args.number (options_with c.args.number c.args.texts.now) c.each.last c.args.texts.now c.each.text-index c.text-item.result c.args.out.now.items c.each.out.items c.append_option.new.out.items c.each-test.true c.text-item.is c.each.invariant more

pub returns-clause-ok : goal.returns-clause-ok
returns-clause-ok c = appended_all c.args.before c.args.number c.args.texts.now c.each.last c.each.text-index c.args.out.now.items c.each.out.items c.each-test.false c.each.invariant
