use Rattle.std.proofs.Common.{List, ap, arith, length, length-append, take, vec_len, ◌++◌, ◌∙◌, ◌-◌, ◌*◌, ◌<◌, ◌≤◌, ◌≡◌}
use Rattle.journal_book.specs.Entries.{Written}
use Rattle.journal_book.specs.Journals.{JournalValue}
use Rattle.journal_book.specs.Past.{past_in}
use Rattle.journal_book.specs.Segments.{entries_in}
use Rattle.journal_book.proofs.Filled.{last-taken, length-in, places-in}
use Rattle.journal_book.proofs.journal.Journal.take_last.Goals as goal

pub take_entry-requires-clause-some : goal.take_entry-requires-clause-some
take_entry-requires-clause-some g c =
    let inside = c.self.inside in
    let count = length-in inside.segments.items inside.held c.self.invariant.0 in
    let same = ap (λ (j : JournalValue). length j.entries) c.self.view_is in
    let given = ap (λ (j : JournalValue). j.given) c.self.view_is in
    let longer = length-append (past_in inside.past) (entries_in inside.segments.items) in
    omega (arith, c.requires, count, same, given, longer, c.self.invariant.2)

pub overflow_sub-self : goal.overflow_sub-self
overflow_sub-self g c =
    let inside = c.self.inside in
    let count = length-in inside.segments.items inside.held c.self.invariant.0 in
    let same = ap (λ (j : JournalValue). length j.entries) c.self.view_is in
    let given = ap (λ (j : JournalValue). j.given) c.self.view_is in
    let longer = length-append (past_in inside.past) (entries_in inside.segments.items) in
    omega (arith, c.requires, count, same, given, longer, c.self.invariant.2)

pub returns-clause-entries : goal.returns-clause-entries
returns-clause-entries g c =
    let inside = c.self.inside in
    let count = length-in inside.segments.items inside.held c.self.invariant.0 in
    let same = ap (λ (j : JournalValue). length j.entries) c.self.view_is in
    let given = ap (λ (j : JournalValue). j.given) c.self.view_is in
    let longer = length-append (past_in inside.past) (entries_in inside.segments.items) in
    let some : 0 < inside.held =
    omega (arith, c.requires, count, same, given, longer, c.self.invariant.2) in
    ap (λ (ws : List Written). past_in inside.past ++ ws) c.take_entry.ensures.entries
    ∙ last-taken (past_in inside.past) (entries_in inside.segments.items) inside.held count some
    ∙ ap (λ (j : JournalValue). take (length j.entries - 1) j.entries) c.self.view_is

pub returns-clause-room : goal.returns-clause-room
returns-clause-room g c =
    let inside = c.self.inside in
    let segments = c.self.inside.segments in
    let count = length-in segments.items c.self.inside.held c.self.invariant.0 in
    let same = ap (λ (j : JournalValue). length j.entries) c.self.view_is in
    let given = ap (λ (j : JournalValue). j.given) c.self.view_is in
    let longer = length-append (past_in inside.past) (entries_in segments.items) in
    let places : c.self.inside.held ≤ 1024 * length segments.items =
    places-in segments.items c.self.inside.held c.self.invariant.0 in
    let was : 1024 * vec_len segments - c.self.inside.held ≡ c.args.self.now.room =
    ap (λ (j : JournalValue). j.room) c.self.view_is in
    omega (arith, c.requires, count, same, given, longer, c.self.invariant.2, segments.ok.0, c.take_entry.ensures.places)
