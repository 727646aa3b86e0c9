-- The edge goes on as it was, and the mark is what is held now.
use Rattle.std.proofs.Common.{◌≡◌, ℕ, List, take, drop, sym, ap, subst, ◌∙◌, arith}
use Rattle.std.proofs.Math.Seq.{take-length}
use Rattle.http_edge.specs.Edges.{is_told}
use Rattle.gateway_connections.specs.Inlets.{IsSound}
use Rattle.gateway_connections.specs.Inboxes.{inlet_of}
use Rattle.gateway_connections.proofs.inbox.Inbox.mark.Goals as goal

pub invariant_of-self : goal.invariant_of-self
invariant_of-self c =
    let s = c.self.inside in
    let n = c.let_go.new.self in
    let order = n.order in
    let within = n.within in
    let ok = n.bytes.ok.0 in
    let len = c.len.ensures in
    let all : take c.len.result n.bytes.items ≡ n.bytes.items = ap (λ (k : ℕ). take k n.bytes.items) (omega (arith, ok, len)) ∙ take-length n.bytes.items in
    let kept : IsSound (inlet_of s.number n s.told s.closing s.unread) =
    subst (λ (u : List ℕ). IsSound (record { number = s.number; text = u; told = s.told; closing = s.closing; unread = s.unread })) (sym c.let_go.ensures.text) c.self.invariant.1 in (
      c.let_go.ensures.in_step c.self.invariant.0,
      kept,
      (λ t. c.self.invariant.2 (ap is_told (sym c.let_go.ensures.edge) ∙ t)),
      omega (arith, order, within, len),
      omega (arith, len),
      subst (λ (u : List ℕ). IsSound (record { number = s.number; text = drop n.start u; told = s.told; closing = s.closing; unread = s.unread })) (sym all) kept,
    )
