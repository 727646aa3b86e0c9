use Rattle.std.proofs.Common.{sym, ◌∙◌}
use Rattle.transformers.proofs.Passing.{taken_rest, taken_none}
use Rattle.transformers.proofs.taken.is_taken.Goals as goal

pub returns-in-Some : goal.returns-in-Some
returns-in-Some c = c.is_empty.ensures ∙ sym (taken_rest c.args.bytes.now c.in-Some.rest.now (rw c.in-Some.is at c.behind.ensures))

pub returns-in-None : goal.returns-in-None
returns-in-None c = sym (taken_none c.args.bytes.now (rw c.in-None.is at c.behind.ensures))
