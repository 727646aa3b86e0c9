use Rattle.std.proofs.Common.{◌≡◌, map, take}
use Rattle.exchange_model.specs.Hearing.{outdated_by}
use Rattle.exchange_table.proofs.Among.{among}
use Rattle.exchange_table.proofs.outrunning.outdate.Given as goal

abbrev pub invariant-each : goal.invariant-each
invariant-each g l = l.rows ≡ map (among (take l.mark-index l.alike) (outdated_by l.journal.entries l.key)) l.initial.rows
