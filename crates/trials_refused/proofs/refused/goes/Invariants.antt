-- The ledger is the one that the blank names.
use Rattle.trials_refused.proofs.refused.goes.Given as goal

abbrev pub ghosts-run : goal.ghosts-run
ghosts-run g a = record { name = a.blank.name; parts = a.blank.parts }
