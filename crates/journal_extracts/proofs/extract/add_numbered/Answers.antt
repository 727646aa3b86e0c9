-- What was given out and isn't kept, or is past the end, can't be read.
use Rattle.std.proofs.Common.{map, append-nil, sym}
use Rattle.journal_extracts.specs.Extracts.{place_of}
use Rattle.journal_extracts.proofs.Seen.{none-at}
use Rattle.journal_extracts.proofs.extract.add_numbered.Goals as goal

pub returns-in_default-clause-placed : goal.returns-in_default-clause-placed
returns-in_default-clause-placed g c =
    rw (none-at c.args.journal.now c.args.number c.in_default.ensures.entry)
    (sym (append-nil (map (place_of {R = g.row.R.Denot}) c.args.entries.now.items)))
