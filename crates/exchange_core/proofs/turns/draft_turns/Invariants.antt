use Rattle.std.proofs.Common.{◌≡◌, ◌+◌, ◌≤◌, ◌++◌, List, length, take, drop}
use Rattle.journal_book.specs.Entries.{Deed}
use Rattle.exchange_model.specs.State.{State}
use Rattle.endpoint_table.specs.Turns.{turns_deeds}
use Rattle.exchange_core.specs.Drafts.{Drafts}
use Rattle.exchange_core.specs.Turns.{AreTimed}
use Rattle.exchange_core.proofs.turns.draft_turns.Given as goal

abbrev pub invariant-each : goal.invariant-each
invariant-each g l = record {
  timed : AreTimed (drop l.place l.turns.items);
  room : l.draft.next + length (turns_deeds (drop l.place l.turns.items)) ≤ 4294967295;
  drafts : (S : State) (ds : List Deed) → Drafts l.moment S ds l.initial.draft
      → Drafts l.moment S (ds ++ turns_deeds (take l.place l.turns.items)) l.draft;
  answers : l.draft.answers ≡ l.initial.draft.answers;
}
