use Rattle.std.proofs.Common.{◌≡◌, ◌++◌, length}
use denote.Shadow.{shadow}
use denote.Text.{Utf8}
use Rattle.journal_picture.specs.Lines.{ended, lines_in}
use Rattle.journal_picture.proofs.journal.journal_of.Given as goal

-- what was taken, and what is left, are the text
abbrev pub invariant-each : goal.invariant-each
invariant-each l = (ended (lines_in l.journal) ++ l.rest ≡ l.text) × shadow (Utf8 l.rest)

abbrev pub decreases-each : goal.decreases-each
decreases-each l = length l.rest
