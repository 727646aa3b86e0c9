use Rattle.history_laws.proofs.Uploads.{uploaded-holds, turned_down-holds, endless-holds, hurried-refused, overlapping-refused}
use Rattle.history_laws.proofs.worked.worked_uploads.Goals as goal

pub returns-clause-uploaded : goal.returns-clause-uploaded
returns-clause-uploaded c = uploaded-holds

pub returns-clause-turned_down : goal.returns-clause-turned_down
returns-clause-turned_down c = turned_down-holds

pub returns-clause-endless : goal.returns-clause-endless
returns-clause-endless c = endless-holds

pub returns-clause-hurried : goal.returns-clause-hurried
returns-clause-hurried c = hurried-refused

pub returns-clause-overlapping : goal.returns-clause-overlapping
returns-clause-overlapping c = overlapping-refused
