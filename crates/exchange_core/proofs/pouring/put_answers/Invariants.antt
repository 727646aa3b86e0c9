use Rattle.std.proofs.Common.{◌≡◌, ◌++◌, ◌+◌, ◌≤◌, vec_len, vec_capacity}
use Rattle.std.specs.VecDeque.{deque_len}
use Rattle.exchange_core.proofs.pouring.put_answers.Given as goal

abbrev pub invariant-each : goal.invariant-each
invariant-each g l = record {
  items : l.answers.items ++ l.more.items ≡ l.initial.answers.items ++ l.initial.more.items;
  fits : vec_len l.answers + deque_len l.more ≤ vec_capacity l.answers;
}

abbrev pub decreases-each : goal.decreases-each
decreases-each g l = deque_len l.more
