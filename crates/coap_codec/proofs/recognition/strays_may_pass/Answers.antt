use Rattle.std.proofs.Common.{◌≡◌, true, false, refl, arith}
use Rattle.coap_codec.specs.Spelling.{Entry}
use Rattle.coap_codec.specs.Recognition.{may_pass}
use Rattle.coap_codec.proofs.Recognising.{starts, steps, halts}
use Rattle.coap_codec.proofs.recognition.strays_may_pass.Goals as goal
use Rattle.coap_codec.proofs.recognition.strays_may_pass.Goals.{else-not-recognised-via-then-not-recognised+else-not-may_pass, else-not-recognised-via-else-not-recognised}

pub each-init : goal.each-init
each-init c = starts _ _ _ refl refl

pub returns-then-not-may_pass : goal.returns-then-not-may_pass
returns-then-not-may_pass c =
    let unknown : c.recognise-recognised.result ≡ false = grind arith in
    let stray : may_pass c.args.forwarded c.o-item.result.number ≡ false = grind arith in
    halts (λ (o : Entry). may_pass c.args.forwarded o.number) c.args.options.now c.each.o-index c.o-item.result c.each.marks c.recognise-recognised.result
    c.each-test.true c.o-item.is c.each.invariant c.recognise-recognised.ensures.recognised unknown stray

pub each-preserved : goal.each-preserved
each-preserved c =
    let pass : c.recognise-recognised.result ≡ false → may_pass c.args.forwarded c.o-item.result.number ≡ true =
    λ unknown. elim c.else-not-recognised.branch [
      | else-not-recognised-via-then-not-recognised+else-not-may_pass w ↦ grind arith
      | else-not-recognised-via-else-not-recognised w ↦ grind arith
    ] in
    steps (λ (o : Entry). may_pass c.args.forwarded o.number) c.args.options.now c.each.o-index c.o-item.result c.each.marks _ c.recognise-recognised.result
    c.each-test.true c.o-item.is c.each.invariant c.recognise-recognised.ensures.recognised c.recognise-recognised.ensures.marked c.recognise-recognised.ensures.small pass
