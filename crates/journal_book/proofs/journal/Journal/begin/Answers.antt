use Rattle.std.proofs.Common.{ap, arith, length, vec_len, List, ◌++◌, ◌∙◌, ◌+◌, ◌-◌, ◌*◌, ◌≤◌, ◌≡◌}
use Rattle.std.proofs.lemmas.Result.{on_ok_weaker}
use Rattle.journal_book.specs.Entries.{Written}
use Rattle.journal_book.specs.Journals.{JournalValue}
use Rattle.journal_book.specs.Past.{past_in}
use Rattle.journal_book.proofs.Filled.{places-in}
use Rattle.journal_book.proofs.journal.Journal.begin.Goals as goal

pub returns-clause-same : goal.returns-clause-same
returns-clause-same g c =
    ap (λ (ws : List Written). past_in c.self.inside.past ++ ws) c.begin_segment.ensures.entries
    ∙ ap (λ (j : JournalValue). j.entries) c.self.view_is

pub returns-clause-ok : goal.returns-clause-ok
returns-clause-ok g c =
    let segments = c.self.inside.segments in
    let places : c.self.inside.held ≤ 1024 * length segments.items =
    places-in segments.items c.self.inside.held c.self.invariant.0 in
    let was : 1024 * vec_len segments - c.self.inside.held ≡ c.args.self.now.room =
    ap (λ (j : JournalValue). j.room) c.self.view_is in
    let counted = segments.ok.0 in
    on_ok_weaker c.begin_segment.result
    (λ (more : vec_len c.begin_segment.new.segments ≡ vec_len segments + 1). omega (arith, counted, more))
    c.begin_segment.ensures.ok
