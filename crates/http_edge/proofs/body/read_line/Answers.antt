use Rattle.std.proofs.Common.{rules, inl, inr, ◌≤◌, ◌<◌, ◌-◌, length}
use Rattle.httparse.specs.Grammar.{ChunkLine, HasNoChunkLine, NeverHasChunkLine, MayBecomeChunkLine}
use Rattle.httparse.specs.Spans.{IsChunkLineAt}
use Rattle.http_edge.specs.declared.body.Left.TheVariants.{Line}
use Rattle.http_edge.specs.declared.request.BadKind.TheVariants.{Large}
use Rattle.http_edge.proofs.Lefts as law
use Rattle.http_edge.proofs.body.read_line.Goals as goal

pub returns-then-as_slice-gt-LINE-clause-goes : goal.returns-then-as_slice-gt-LINE-clause-goes
returns-then-as_slice-gt-LINE-clause-goes c =
    let none : HasNoChunkLine c.args.unread.now = search rules in
    let much : 256 < length c.args.unread.now = search rules in
    λ f text s. law.bad_line_by f c.args.left.now text c.args.body.now c.args.unread.now c.requires (inr (much, law.front_none 256 c.args.unread.now none)) s

pub returns-in-Ok-Partial-clause-goes : goal.returns-in-Ok-Partial-clause-goes
returns-in-Ok-Partial-clause-goes c =
    let none : HasNoChunkLine c.args.unread.now = search rules in
    let may : MayBecomeChunkLine c.args.unread.now = search rules in
    let short : length c.args.unread.now ≤ 256 = search rules in
    λ f text s.
    let x = law.left_is f c.args.left.now Line c.args.body.now c.args.unread.now text c.requires s in
    (s, inl (law.none_by f text x.0 (law.line_waits text c.args.body.now c.args.unread.now x.1 none may short)), law.leaves_by f text c.args.unread.now x.0 (law.line_leaves text c.args.body.now c.args.unread.now x.1 none))

pub returns-in-Err-clause-goes : goal.returns-in-Err-clause-goes
returns-in-Err-clause-goes c =
    let never : NeverHasChunkLine c.args.unread.now = search rules in
    λ f text s. law.bad_line_by f c.args.left.now text c.args.body.now c.args.unread.now c.requires (inl never) s

pub returns-then-len-gt-LINE-clause-goes : goal.returns-then-len-gt-LINE-clause-goes
returns-then-len-gt-LINE-clause-goes c =
    let at : (l : ChunkLine) × IsChunkLineAt c.args.unread.now c.in-Ok-Complete.found.0 c.in-Ok-Complete.found.1 l = search rules in
    λ f text s. law.bad_line_by f c.args.left.now text c.args.body.now c.args.unread.now c.requires (law.too_long c.args.unread.now c.in-Ok-Complete.found.0 c.in-Ok-Complete.found.1 at.0 at.1 c.if-len-gt-LINE.true) s

pub returns-then-size-saturating_sub-clause-goes : goal.returns-then-size-saturating_sub-clause-goes
returns-then-size-saturating_sub-clause-goes c =
    let at : (l : ChunkLine) × IsChunkLineAt c.args.unread.now c.in-Ok-Complete.found.0 c.in-Ok-Complete.found.1 l = search rules in
    let much : 65536 - length c.args.body.now < c.in-Ok-Complete.found.1 = search rules in
    λ f text s.
    let x = law.left_is f c.args.left.now Line c.args.body.now c.args.unread.now text c.requires s in
    law.never_by f text Large x.0 (law.large_at text c.args.body.now c.args.unread.now c.in-Ok-Complete.found.0 c.in-Ok-Complete.found.1 x.1 at c.if-len-gt-LINE.false much)

pub returns-then-size-eq0-clause-reads : goal.returns-then-size-eq0-clause-reads
returns-then-size-eq0-clause-reads c =
    let at : (l : ChunkLine) × IsChunkLineAt c.args.unread.now c.in-Ok-Complete.found.0 c.in-Ok-Complete.found.1 l = search rules in
    let fits = law.line_fits c.args.unread.now c.in-Ok-Complete.found.0 c.in-Ok-Complete.found.1 at in
    λ e. law.shorter c.args.unread.now c.skip.new.self c.in-Ok-Complete.found.0 c.skip.ensures fits.0 fits.1

pub returns-clause-reads : goal.returns-clause-reads
returns-clause-reads c =
    let at : (l : ChunkLine) × IsChunkLineAt c.args.unread.now c.in-Ok-Complete.found.0 c.in-Ok-Complete.found.1 l = search rules in
    let fits = law.line_fits c.args.unread.now c.in-Ok-Complete.found.0 c.in-Ok-Complete.found.1 at in
    λ e. law.shorter c.args.unread.now c.skip.new.self c.in-Ok-Complete.found.0 c.skip.ensures fits.0 fits.1
