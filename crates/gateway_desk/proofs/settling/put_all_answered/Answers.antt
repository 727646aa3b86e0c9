-- Nothing is gathered yet.
use Rattle.std.proofs.Common.{ℕ, List, ◌++◌, ap}
use Rattle.gateway_desk.specs.Lines.{line_of}
use Rattle.gateway_desk.specs.Settled.{answered_by}
use Rattle.gateway_desk.proofs.Sums.{gather_map}
use Rattle.gateway_desk.proofs.settling.put_all_answered.Goals as goal

pub each-init : goal.each-init
each-init g c = ap (λ (ns : List ℕ). c.args.numbers.now.items ++ ns) (gather_map answered_by line_of c.args.notes.now)
