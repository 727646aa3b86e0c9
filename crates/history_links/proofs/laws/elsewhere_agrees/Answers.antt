use Rattle.history_links.proofs.OtherPeers.{ask-elsewhere, send-elsewhere, copy-elsewhere}
use Rattle.history_links.proofs.HeardElsewhere.{says-elsewhere}
use Rattle.history_links.proofs.laws.elsewhere_agrees.Goals as goal

pub returns-clause-asks : goal.returns-clause-asks
returns-clause-asks c = ask-elsewhere

pub returns-clause-first : goal.returns-clause-first
returns-clause-first c = send-elsewhere

pub returns-clause-copies : goal.returns-clause-copies
returns-clause-copies c = copy-elsewhere

pub returns-clause-says : goal.returns-clause-says
returns-clause-says c = says-elsewhere
