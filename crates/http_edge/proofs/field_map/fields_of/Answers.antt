-- Each value is cut off what is left of them.
use Rattle.std.proofs.Common.{ap, sym, ◌∙◌, length}
use Rattle.http_edge.proofs.Parting.{value_next, others_next, field_next}
use Rattle.http_edge.proofs.field_map.fields_of.Goals as goal

pub add_field-requires : goal.add_field-requires
add_field-requires c =
    let f = c.requires.fields c.each.span-index _ c.each-test.true in
    let v = value_next c.args.unread.now c.args.spans.now c.each.span-index _ c.each-test.true c.each.values _ c.each.invariant.1 (ap length c.of.ensures) in
    record {
      name = rw c.of-in-each.ensures f.name;
      len = rw c.of-in-each.ensures f.short;
      value = rw (c.in_ok-value.ensures.front, v) f.value;
    }

pub each-preserved : goal.each-preserved
each-preserved c =
    let v = value_next c.args.unread.now c.args.spans.now c.each.span-index _ c.each-test.true c.each.values _ c.each.invariant.1 (ap length c.of.ensures) in
    let o = others_next c.args.unread.now c.args.spans.now c.each.span-index _ c.each-test.true c.each.values _ c.each.invariant.1 (ap length c.of.ensures) in
    let f = field_next c.args.unread.now c.args.spans.now c.each.span-index _ c.each-test.true in
    (c.in_ok-add_field.ensures ∙ rw (c.each.invariant.0, c.of-in-each.ensures, c.in_ok-value.ensures.front, v) (sym f), c.in_ok-value.ensures.rest ∙ o)
