use Rattle.std.proofs.Common.{◌≡◌, ◌≤◌, ◌+◌, ◌++◌, List, length, map}
use Rattle.std.specs.VecDeque.{deque_len}
use Rattle.std.specs.List.{AllByRecursion}
use Rattle.journal_book.specs.Entries.{Deed}
use Rattle.exchange_model.specs.State.{State}
use Rattle.exchange_core.specs.Drafts.{IsDrafted}
use Rattle.exchange_core.specs.Ending.{IsTold, deed_of}
use Rattle.exchange_core.specs.Reading.{IsTellingHere}
use Rattle.exchange_core.proofs.ending.draft_tellings.Given as goal

abbrev pub invariant-each : goal.invariant-each
invariant-each g l = record {
  drafted : (S : State) (ds : List Deed) → S.entries ≡ l.journal.entries
      → IsDrafted l.moment S ds l.initial.draft
      → (es : List Deed) × IsDrafted l.moment S es l.draft
      × (es ++ map deed_of l.told.items ≡ ds ++ map deed_of l.initial.told.items);
  room : l.draft.next + length l.told.items ≤ 4294967295;
  here : AllByRecursion (IsTellingHere l.journal.given l.journal.kept) l.told.items;
  told : AllByRecursion (IsTold l.journal.entries l.draft.entries l.moment) l.told.items;
}

abbrev pub decreases-each : goal.decreases-each
decreases-each g l = deque_len l.told
