use Rattle.std.proofs.Common.{arith, length, ◌*◌, ◌≤◌}
use Rattle.journal_book.proofs.Filled.{places-in}
use Rattle.journal_book.proofs.journal.Journal.room.Goals as goal

pub overflow_sub-result : goal.overflow_sub-result
overflow_sub-result g c =
    let segments = c.self.inside.segments in
    let places : c.self.inside.held ≤ 1024 * length segments.items =
    places-in segments.items c.self.inside.held c.self.invariant.0 in
    omega (arith, c.len.ensures, segments.ok.0)
