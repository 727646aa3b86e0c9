use Rattle.history_laws.proofs.Spoiled.{sent_six_times-refused, renumbered-refused, overtaken-refused, used_again-refused}
use Rattle.history_laws.proofs.worked.spoiled_sendings.Goals as goal

pub returns-clause-sixth : goal.returns-clause-sixth
returns-clause-sixth c = sent_six_times-refused

pub returns-clause-renumbered : goal.returns-clause-renumbered
returns-clause-renumbered c = renumbered-refused

pub returns-clause-overtaken : goal.returns-clause-overtaken
returns-clause-overtaken c = overtaken-refused

pub returns-clause-used_again : goal.returns-clause-used_again
returns-clause-used_again c = used_again-refused
