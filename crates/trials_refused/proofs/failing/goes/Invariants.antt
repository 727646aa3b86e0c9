-- The ledger is the one that the blank names.
use Rattle.trials_refused.proofs.failing.goes.Given as goal

abbrev pub ghosts-run_trial : goal.ghosts-run_trial
ghosts-run_trial g a = record { name = a.blank.name; parts = a.blank.parts }
