use Rattle.std.proofs.Common.{rules, ◌≡◌, ◌∙◌, sym, refl, subst, true, false, not, ◌&&◌, Option, Some}
use Rattle.http_edge.specs.declared.begun.Begun.{Begun}
use Rattle.http_edge.specs.Requests.{content}
use Rattle.http_edge.specs.Edges.{StandsBegun, GoesOn, is_told_in}
use Rattle.http_edge.proofs.Edging as law
use Rattle.http_edge.proofs.edge.Edge.wants_continue.Goals as goal

pub returns-in_default-2-clause-asks : goal.returns-in_default-2-clause-asks
returns-in_default-2-clause-asks c =
    let e : c.args.self.now.begun ≡ Some c.in-Some.begun = search rules in
    let no : (c.in-Some.begun.wants && not c.in-Some.begun.told) ≡ false = search rules in
    λ text s. (
      λ f. absurd cc,
      λ a.
          let g : GoesOn (content c.in-Some.begun.request) c.in-Some.begun.left c.in-Some.begun.wants c.args.self.now.unread text = subst (λ (o : Option Begun). StandsBegun o c.args.self.now.unread text) e s.1 in
          let t : c.in-Some.begun.told ≡ false = subst (λ (o : Option Begun). is_told_in o ≡ false) e a.1 in
          let w : c.in-Some.begun.wants ≡ true = law.asking (content c.in-Some.begun.request) c.in-Some.begun.left c.in-Some.begun.wants c.args.self.now.unread text g a.2 in
          sym no ∙ rw (w, t) refl,
    )

pub returns-in_default-2-clause-expects : goal.returns-in_default-2-clause-expects
returns-in_default-2-clause-expects c =
    let no : (c.in-Some.begun.wants && not c.in-Some.begun.told) ≡ false = search rules in
    λ text s waits.
    let g : GoesOn (content c.in-Some.begun.request) c.in-Some.begun.left c.in-Some.begun.wants c.args.self.now.unread text = s.1 in (
      λ told. law.expected _ _ c.in-Some.begun.wants _ text g (c.in-Some.begun.only told),
      λ x. law.told-before c.in-Some.begun.wants c.in-Some.begun.told no (law.asking _ _ c.in-Some.begun.wants _ text g x),
    )
