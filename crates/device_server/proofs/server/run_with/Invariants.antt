-- The rows that were looked at are installed.
use Rattle.std.specs.Prelude.{take}
use Rattle.demo_origin.specs.Origins.{EachKeeps}
use Rattle.device_server.specs.Kinds.{kinds}
use Rattle.device_server.specs.Rows.{AreRows}
use Rattle.device_server.proofs.server.run_with.Given as goal

abbrev pub invariant-each : goal.invariant-each
invariant-each g l =
    EachKeeps kinds l.all.items × AreRows (take l.row-index l.device.resources) l.all.items
