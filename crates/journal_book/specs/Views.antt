-- Entries as plain data.
use Rattle.std.specs.Arc.{arc_value}
use Rattle.ask_model.specs.Views.{Ask, Mapping}
use Rattle.journal_book.specs.declared.entry.Grounds.{Grounds as RustGrounds}
use Rattle.journal_book.specs.declared.entry.Grounds.TheVariants as G
use Rattle.journal_book.specs.declared.entry.Mark.{Mark as RustMark}
use Rattle.journal_book.specs.declared.entry.Mark.TheVariants as M
use Rattle.journal_book.specs.declared.entry.Done.{Done as RustDone}
use Rattle.journal_book.specs.declared.entry.Done.TheVariants as D
use Rattle.journal_book.specs.declared.entry.Event.{Event}
use Rattle.journal_book.specs.declared.entry.Event.TheVariants as E
use Rattle.journal_book.specs.declared.entry.Entry.{Entry}
use Rattle.journal_book.specs.Entries.{Grounds, Live, Kept, Fault, Mark, Ground, Past, Done, Asked, Sent, Heard, Deed, Opens, Asks, Sends, Hears, Passes, Answers, Shuts, Seals, Carries, Written}

abbrev pub ask_of : Mapping → Ask
ask_of m = record { came = m.came; sense = m.sense; rules = m.rules }

abbrev pub grounds_of : RustGrounds → Grounds
grounds_of (G.Live js) = Live js
grounds_of (G.Kept js) = Kept js
grounds_of (G.Fault cause n) = Fault cause n

abbrev pub mark_of : RustMark → Mark
mark_of M.Ground = Ground
mark_of M.Past = Past

abbrev pub plain_done : {R : Type 0} → RustDone R → Done
plain_done (D.Asked c m) = Asked c (ask_of (arc_value m))
plain_done (D.Sent p b t) = Sent p (arc_value b) t
plain_done (D.Heard p b) = Heard p b

abbrev pub event_of : {R : Type 0} → Event R → Deed
event_of (E.Opened c) = Opens c
event_of (E.Asked c m) = Asks c (ask_of (arc_value m))
event_of (E.Sent p b t) = Sends p (arc_value b) t
event_of (E.Heard p b) = Hears p b
event_of E.Passed = Passes
event_of (E.Answered c k g) = Answers c k (grounds_of g)
event_of (E.Shut c) = Shuts c
event_of E.Sealed = Seals
event_of (E.Carried n mark d) = Carries n (mark_of mark) (plain_done d)

abbrev pub item_of : {R : Type 0} → Entry R → Written
item_of e = record { moment = e.moment; deed = event_of e.event }
