use Rattle.std.proofs.Common.{rules, ◌≡◌, inl, inr, ◌≤◌, ◌<◌, length}
use Rattle.httparse.specs.Grammar.{HasNoSection, MayBecomeSection}
use Rattle.httparse.specs.Spans.{IsSectionWithin, IsSectionOf, SectionOverflows}
use Rattle.http_edge.specs.declared.request.BadKind.TheVariants.{Syntax}
use Rattle.http_edge.proofs.Lefts as law
use Rattle.http_edge.proofs.body.read_trailers.Goals as goal

pub returns-in-Ok-Complete-clause-goes : goal.returns-in-Ok-Complete-clause-goes
returns-in-Ok-Complete-clause-goes c =
    let short : length c.args.unread.now ≤ 8192 = search rules in
    let room : length c.parse_headers.new.headers ≡ 64 = search rules in
    let within : IsSectionWithin c.args.unread.now c.parse_headers.new.headers c.in-Ok-Complete.len c.in-Ok-Complete.field-0-0-1 = search rules in
    let at : IsSectionOf c.args.unread.now 0 c.parse_headers.new.headers (c.in-Ok-Complete.len, c.in-Ok-Complete.field-0-0-1) = search rules in
    let read = law.trailers_read c.args.unread.now c.parse_headers.new.headers c.in-Ok-Complete.len c.in-Ok-Complete.field-0-0-1 short room within at in
    λ f body text s. rw c.skip.ensures (law.takes_by f text body _ s.0 (law.trailers_whole text body c.args.unread.now _ s.1 read))

pub returns-then-as_slice-eq-ROOM-clause-goes : goal.returns-then-as_slice-eq-ROOM-clause-goes
returns-then-as_slice-eq-ROOM-clause-goes c =
    let none : HasNoSection c.args.unread.now = search rules in
    let size : length c.args.unread.now ≡ 8192 = search rules in
    λ f body text s. law.never_by f text Syntax s.0 (law.bad_trailers text body c.args.unread.now s.1 (law.trailers_full c.args.unread.now size none))

pub returns-in-Err-clause-goes : goal.returns-in-Err-clause-goes
returns-in-Err-clause-goes c =
    let many : SectionOverflows 64 c.args.unread.now = search rules in
    λ f body text s. law.never_by f text Syntax s.0 (law.bad_trailers text body c.args.unread.now s.1 (inl many))

pub returns-else-as_slice-eq-ROOM-clause-goes : goal.returns-else-as_slice-eq-ROOM-clause-goes
returns-else-as_slice-eq-ROOM-clause-goes c =
    let none : HasNoSection c.args.unread.now = search rules in
    let may : MayBecomeSection c.args.unread.now = search rules in
    let short : length c.args.unread.now < 8192 = search rules in
    λ f body text s. (
      s,
      inr (s.0, record { body = body; unread = c.args.unread.now; at = s.1; none = none; may = may; short = short }),
      law.leaves_by f text c.args.unread.now s.0 (law.trailers_leave text body c.args.unread.now s.1),
    )
