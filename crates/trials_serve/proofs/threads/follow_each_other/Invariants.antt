-- The ledger is the one that the blank names.
use Rattle.trials_serve.proofs.threads.follow_each_other.Given as goal

abbrev pub ghosts-follow : goal.ghosts-follow
ghosts-follow g a = record { name = a.blank.name; parts = a.blank.parts }
