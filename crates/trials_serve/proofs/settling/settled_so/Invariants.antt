-- The ledger is the one that the blank names.
use Rattle.trials_serve.proofs.settling.settled_so.Given as goal

abbrev pub ghosts-run_wrong : goal.ghosts-run_wrong
ghosts-run_wrong g a = record { name = a.blank.name; parts = a.blank.parts }
