use Rattle.std.proofs.Common.{refl}
use Rattle.std.proofs.lemmas.List.{map_push}
use Rattle.coap_codec.proofs.OptionValues.{values_skip, values_take, values_end}
use Rattle.coap_codec.proofs.values.values_of.Goals as goal
use Rattle.coap_codec.proofs.values.values_of.Goals.{then-o-number+in_ok-push, else-o-number}

pub each-init : goal.each-init
each-init c = rw (c.new-values.ensures.items, c.deref-o-items.ensures.value) refl

pub each-preserved : goal.each-preserved
each-preserved c =
    elim c.if-o-number.branch [
      | then-o-number+in_ok-push w ↦ rw (w.values-is, w.in_ok-push.ensures.items, map_push, w.as_slice.ensures.value) (values_take _ c.args.number c.deref-o-items.result.now c.each.o-index c.o-item.result _ c.each-test.true c.o-item.is w.if-o-number.true c.each.invariant)
      | else-o-number w ↦ rw w.values-is (values_skip _ c.args.number c.deref-o-items.result.now c.each.o-index c.o-item.result _ c.each-test.true c.o-item.is w.if-o-number.false c.each.invariant)
    ]

pub returns-clause-ok : goal.returns-clause-ok
returns-clause-ok c = values_end _ c.args.number c.deref-o-items.result.now c.each.o-index _ c.each-test.false c.each.invariant
