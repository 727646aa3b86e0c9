use Rattle.std.proofs.Common.{◌≡◌, map, take}
use Rattle.exchange_model.specs.Matters.{request_in}
use Rattle.exchange_table.specs.Outrunning.{outrun_with}
use Rattle.exchange_table.proofs.Among.{among}
use Rattle.exchange_table.proofs.outrunning.outrun.Given as goal

abbrev pub invariant-each : goal.invariant-each
invariant-each g l = l.rows ≡ map (among (take l.mark-index l.alike) (outrun_with (request_in l.write.sense) l.journal.entries)) l.initial.rows
