use Rattle.std.proofs.Common.{rules, ◌≡◌, ◌∙◌, [], length, sym, inl, inr, None}
use Rattle.http_edge.proofs.Edging as law
use Rattle.http_edge.proofs.Listing.{empty}
use Rattle.http_edge.proofs.edge.Edge.next.Goals as goal

pub returns-then-is_empty-clause-steps : goal.returns-then-is_empty-clause-steps
returns-then-is_empty-clause-steps c =
    let e : c.args.self.now.begun ≡ None = search rules in
    let size : length c.as_slice.result.now ≡ 0 = search rules in
    let none : c.args.self.now.unread ≡ [] = sym c.as_slice.ensures.bytes ∙ empty c.as_slice.result.now size in
    λ text s. (
      (s.0, s.1, λ waits. law.empty_leaves c.args.self.now.begun c.args.self.now.unread text e none s.1),
      inr (inl (law.empty_waits c.args.self.now.begun c.args.self.now.unread text e none s.1)),
    )
