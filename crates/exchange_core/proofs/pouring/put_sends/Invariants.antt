use Rattle.std.proofs.Common.{◌≡◌, ◌++◌, ◌+◌, ◌≤◌}
use Rattle.std.specs.VecDeque.{deque_len, deque_capacity}
use Rattle.exchange_core.proofs.pouring.put_sends.Given as goal

abbrev pub invariant-each : goal.invariant-each
invariant-each l = record {
  items : l.sends.items ++ l.more.items ≡ l.initial.sends.items ++ l.initial.more.items;
  fits : deque_len l.sends + deque_len l.more ≤ deque_capacity l.sends;
}

abbrev pub decreases-each : goal.decreases-each
decreases-each l = deque_len l.more
