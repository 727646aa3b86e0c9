use Rattle.std.proofs.Common.{rules, ◌≡◌, Option, Some, subst}
use Rattle.http_edge.specs.declared.begun.Begun.{Begun}
use Rattle.http_edge.specs.Requests.{content}
use Rattle.http_edge.specs.Edges.{StandsBegun, GoesOn}
use Rattle.http_edge.proofs.Edging as law
use Rattle.http_edge.proofs.edge.Edge.fill.Goals as goal

pub returns-in-Some-clause-fills : goal.returns-in-Some-clause-fills
returns-in-Some-clause-fills c = λ text s begun.
    let e : c.args.self.now.begun ≡ Some c.in-Some.begun = search rules in
    let g : GoesOn (content c.in-Some.begun.request) c.in-Some.begun.left c.in-Some.begun.wants c.args.self.now.unread text = subst (λ (o : Option Begun). StandsBegun o c.args.self.now.unread text) e s.1 in
    law.in_edge c.fill_body.result c.args.self.now.ended c.args.self.now.waits _ c.fill_body.new.unread text s.0 c.requires.reads
    (law.fills c.fill_body.result (content c.in-Some.begun.request) c.in-Some.begun.left c.fill_body.new.left c.in-Some.begun.wants c.fill_body.new.body.items c.args.self.now.unread c.fill_body.new.unread text g c.fill_body.ensures.ok c.fill_body.ensures.err)
