-- The ledger of asks is opened by the blank that is handed in.
use Rattle.gateway_server.proofs.gateway.run.Given as goal

abbrev pub ghosts-run_with : goal.ghosts-run_with
ghosts-run_with g a = record { name = a.blank.name; parts = a.blank.parts }
