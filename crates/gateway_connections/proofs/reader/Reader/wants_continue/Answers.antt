-- What the edge says of what it was given is so of the text.
use Rattle.std.proofs.Common.{ℕ, List, ◌≡◌, ◌∙◌, true, sym, subst, drop}
use Rattle.std.specs.Prelude.{◌↔◌}
use Rattle.http_edge.specs.Edges.{Expects, is_told}
use Rattle.gateway_connections.specs.Readers.{given_of}
use Rattle.gateway_connections.proofs.Holding.{text-parts, all-given, expects-behind}
use Rattle.gateway_connections.proofs.reader.Reader.wants_continue.Goals as goal

pub returns-clause-asks : goal.returns-clause-asks
returns-clause-asks c = λ so.
    let s = c.args.self.now in
    subst Expects (sym (text-parts s.bytes.items s.start s.taken s.order)) (expects-behind (given_of s) (drop s.taken s.bytes.items) ((c.wants_continue.ensures.asks (given_of s) c.requires).0 so).2)

pub returns-clause-expects : goal.returns-clause-expects
returns-clause-expects c = λ rests.
    let s = c.args.self.now in
    subst (λ (u : List ℕ). is_told c.wants_continue.new.self ≡ true ↔ Expects u) (sym (all-given s.bytes.items s.start s.taken s.order rests.0))
    (c.wants_continue.ensures.expects (given_of s) (c.wants_continue.ensures.stands (given_of s) c.requires) (c.wants_continue.ensures.waits ∙ rests.1))
