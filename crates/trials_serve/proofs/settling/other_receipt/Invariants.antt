-- The ledger is the one that the blank names.
use Rattle.trials_serve.proofs.settling.other_receipt.Given as goal

abbrev pub ghosts-run_other : goal.ghosts-run_other
ghosts-run_other g a = record { name = a.blank.name; parts = a.blank.parts }
