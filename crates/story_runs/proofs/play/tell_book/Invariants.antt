-- The rows that were looked at are installed.
use Rattle.std.specs.Prelude.{take}
use Rattle.demo_origin.specs.Origins.{EachKeeps}
use Rattle.device_server.specs.Kinds.{kinds}
use Rattle.device_server.specs.Rows.{AreRows}
use Rattle.story_runs.proofs.play.tell_book.Given as goal

abbrev pub invariant-each : goal.invariant-each
invariant-each g l =
    EachKeeps kinds l.all.items × AreRows (take l.row-index l.book.held.items) l.all.items
