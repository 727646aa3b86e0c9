use Rattle.std.proofs.Common.{rules, ◌≡◌, inl, ◌≤◌, length, take, drop, refl}
use Rattle.httparse.specs.Ascii.{crlf_bytes}
use Rattle.http_edge.specs.declared.body.Left.TheVariants.{Data}
use Rattle.http_edge.specs.declared.request.BadKind.TheVariants.{Syntax}
use Rattle.http_edge.proofs.Lefts as law
use Rattle.http_edge.proofs.body.read_end.Goals as goal

pub returns-then-not-is_equal-clause-goes : goal.returns-then-not-is_equal-clause-goes
returns-then-not-is_equal-clause-goes c =
    let fits : c.min-n.result ≤ length c.args.unread.now = search rules in
    let few : c.min-n.result ≤ 2 = search rules in
    let differ : take c.min-n.result c.args.unread.now ≡ take c.min-n.result crlf_bytes → ⊥ = λ e. absurd (search rules) in
    λ f body text s.
    let x = law.left_is f c.args.left.now (Data 0) body c.args.unread.now text c.requires s in
    law.never_by f text Syntax x.0 (law.bad_end text body c.args.unread.now x.1 (law.not_end c.args.unread.now c.min-n.result fits few differ))

pub returns-then-n-lt2-clause-goes : goal.returns-then-n-lt2-clause-goes
returns-then-n-lt2-clause-goes c =
    let all : c.min-n.result ≡ length c.args.unread.now = search rules in
    let same : take c.min-n.result c.args.unread.now ≡ take c.min-n.result crlf_bytes = search rules in
    λ f body text s.
    let x = law.left_is f c.args.left.now (Data 0) body c.args.unread.now text c.requires s in
    let may = law.may_end c.args.unread.now c.min-n.result all c.if-n-lt2.true same in (
      s,
      inl (law.none_by f text x.0 (law.data_waits text body c.args.unread.now 0 x.1 may)),
      law.leaves_by f text c.args.unread.now x.0 (law.data_leaves text body c.args.unread.now 0 x.1 may refl),
    )

pub returns-clause-goes : goal.returns-clause-goes
returns-clause-goes c =
    let two : c.min-n.result ≡ 2 = search rules in
    let same : take c.min-n.result c.args.unread.now ≡ take c.min-n.result crlf_bytes = search rules in
    λ f body text s.
    let x = law.left_is f c.args.left.now (Data 0) body c.args.unread.now text c.requires s in
    (x.0, rw c.skip.ensures (law.end_read text body c.args.unread.now (drop c.min-n.result c.args.unread.now) x.1 (law.is_end c.args.unread.now c.min-n.result two same)))
