use Rattle.std.proofs.Common.{sym, arith}
use Rattle.std.proofs.lemmas.List.{take_all}
use Rattle.std.proofs.lemmas.List.Elements.{All-more, All-same}
use Rattle.uri_map.proofs.PlainTexts.{PlainByte}
use Rattle.uri_map.proofs.plain.is_plain.Goals as goal

pub each-preserved : goal.each-preserved
each-preserved c =
    All-more PlainByte c.args.text.now c.each.b-index 0 c.each-test.true c.each.invariant (c.if-b-ge128.false, c.if-b-eq37.false)

pub returns : goal.returns
returns c = λ _. All-same PlainByte c.args.text.now _ (sym (take_all c.each.b-index c.args.text.now (omega (arith, c.each-test.false)))) c.each.invariant
