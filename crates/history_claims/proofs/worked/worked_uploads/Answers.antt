use Rattle.history_claims.proofs.InBlocks.{uploaded, turned-down, left-out, endless}
use Rattle.history_claims.proofs.worked.worked_uploads.Goals as goal

pub returns-clause-uploaded : goal.returns-clause-uploaded
returns-clause-uploaded c = uploaded

pub returns-clause-turned_down : goal.returns-clause-turned_down
returns-clause-turned_down c = turned-down

pub returns-clause-left_out : goal.returns-clause-left_out
returns-clause-left_out c = left-out

pub returns-clause-endless : goal.returns-clause-endless
returns-clause-endless c = endless
