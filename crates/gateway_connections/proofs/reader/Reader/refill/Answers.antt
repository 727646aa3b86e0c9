-- What the edge took stands after what it was given before.
use Rattle.std.proofs.Common.{ℕ, List, sym, subst}
use Rattle.http_edge.specs.Edges.{Stands}
use Rattle.gateway_connections.specs.Readers.{given_of}
use Rattle.gateway_connections.proofs.Holding.{given-fed}
use Rattle.gateway_connections.proofs.reader.Reader.refill.Goals as goal

pub returns-clause-in_step : goal.returns-clause-in_step
returns-clause-in_step c = λ w.
    let s = c.args.self.now in
    subst (λ (u : List ℕ). Stands c.feed-n.new.self u) (sym (given-fed s.bytes.items c.deref.result.now s.start s.taken c.feed-n.result c.deref.ensures.value s.order)) (c.feed-n.ensures.more (given_of s) w)
