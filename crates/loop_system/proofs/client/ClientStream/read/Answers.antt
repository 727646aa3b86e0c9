-- No more came than the buffer takes.
use Rattle.std.proofs.Common.{◌≤◌, ℕ, List, length}
use Rattle.std.specs.Prelude.{Result, Ok, Err, IfOk}
use Rattle.std.specs.Io.{ReadsAtMost}
use Rattle.loop_system.proofs.client.ClientStream.read.Goals as goal

fits : {E : Type 0} (r : Result ℕ E) (xs : List ℕ) → ReadsAtMost r xs → IfOk r (λ n. n ≤ length xs)
fits (Ok n) xs h = h.0
fits (Err e) xs h = tt

pub returns-clause-fits : goal.returns-clause-fits
returns-clause-fits c = c.told.ensures (length c.read.new.buf) (fits c.read.result c.read.new.buf c.read.ensures.bound)
