-- What was given out of a journal: it stands in no memory.
use Rattle.std.specs.Prelude.{List, [], Option, Some, None}
use Rattle.std.specs.declared.alloc.Global.{Global}
use Rattle.std.specs.declared.vec.Vec.{Vec}
use Rattle.passed_items.specs.declared.Passed.{Passed}
use Rattle.rtrb.specs.Ring.{received}
use Rattle.journal_book.specs.Entries.{Written}
use Rattle.journal_book.specs.Segments.{entries_in}
use Rattle.journal_book.specs.declared.entry.Entry.{Entry}

-- the entries of the segments that were given out, oldest first
abbrev pub past_in : {R : Type 0} → Option (Passed (Vec (Entry R) Global)) → List Written
past_in None = []
past_in (Some p) = entries_in (received p.consumer)
