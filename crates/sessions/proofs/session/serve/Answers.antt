-- The lines of the closed pass are those of the pass that the session filled.
use Rattle.sessions.proofs.session.serve.Goals as goal

pub returns-clause-serves : goal.returns-clause-serves
returns-clause-serves g c = rw c.close.ensures.lines c.talk-end.ensures.serves
