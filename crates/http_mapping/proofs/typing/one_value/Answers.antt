-- One more value is put, until none is left.
use Rattle.std.proofs.Common.{rules}
use Rattle.http_mapping.proofs.Values.{one_put}
use Rattle.http_mapping.proofs.typing.one_value.Goals as goal

pub each-preserved : goal.each-preserved
each-preserved c =
    one_put c.each.begun c.each.all.items c.put_value.new.all.items c.each.value-iterator c.next.new.self c.in-Some.value.now c.as_bytes.result.now _
    (search rules) c.as_bytes.ensures.value c.in_ok-put_value.ensures c.each.invariant
