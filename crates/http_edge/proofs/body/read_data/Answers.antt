use Rattle.std.proofs.Common.{rules, ◌≡◌, inl, ◌≤◌, length, ◌++◌, take, drop}
use Rattle.http_edge.specs.declared.body.Left.TheVariants.{Data}
use Rattle.http_edge.proofs.Lefts as law
use Rattle.http_edge.proofs.body.read_data.Goals as goal

pub returns-then-is_empty-clause-ok : goal.returns-then-is_empty-clause-ok
returns-then-is_empty-clause-ok c =
    let none : length c.args.unread.now ≡ 0 = search rules in
    λ f text s.
    let x = law.left_is f c.args.left.now (Data c.args.missing) c.args.body.now.items c.args.unread.now text c.requires.at s in
    let may = law.may_move c.args.missing c.args.unread.now none in (
      s,
      inl (law.none_by f text x.0 (law.data_waits text c.args.body.now.items c.args.unread.now c.args.missing x.1 may)),
      law.leaves_by f text c.args.unread.now x.0 (law.data_leaves text c.args.body.now.items c.args.unread.now c.args.missing x.1 may (law.all_moved c.args.missing c.args.unread.now none)),
    )

pub returns-clause-ok : goal.returns-clause-ok
returns-clause-ok c =
    let few : c.in_ok-n.n ≤ c.args.missing = search rules in
    let fits : c.in_ok-n.n ≤ length c.args.unread.now = search rules in
    let body : c.move_bytes.new.body.items ≡ c.args.body.now.items ++ take c.in_ok-n.n c.args.unread.now = search rules in
    let rest : c.move_bytes.new.unread ≡ drop c.in_ok-n.n c.args.unread.now = search rules in
    λ f text s.
    let x = law.left_is f c.args.left.now (Data c.args.missing) c.args.body.now.items c.args.unread.now text c.requires.at s in
    (x.0, rw (body, rest) (law.moved text c.args.body.now.items c.args.unread.now c.args.missing c.in_ok-n.n x.1 few fits))
