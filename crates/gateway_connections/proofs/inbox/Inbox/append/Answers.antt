-- What was so of the text is so with more after it, and the mark stays.
use Rattle.std.proofs.Common.{ℕ, List, ◌≡◌, ◌≤◌, ◌+◌, ◌++◌, ◌∙◌, length, refl, sym, ap, subst, true, false, arith}
use Rattle.std.proofs.lemmas.List.{length-append}
use Rattle.http_edge.specs.Edges.{Expects, IsUnread, is_told}
use Rattle.gateway_connections.specs.Inlets.{IsSound}
use Rattle.gateway_connections.specs.Inboxes.{at_mark}
use Rattle.gateway_connections.specs.Readers.{text_of}
use Rattle.gateway_connections.proofs.Holding.{more-text, mark-more, expects-behind, unread-behind}
use Rattle.gateway_connections.proofs.inbox.Inbox.append.Goals as goal

pub invariant_of-self-then-not-self : goal.invariant_of-self-then-not-self
invariant_of-self-then-not-self c =
    let r = c.self.inside.reader in
    let n = c.append.new.self in
    let bytes = c.args.bytes.now in
    let order = r.order in
    let within = r.within in
    let ok = r.bytes.ok.0 in
    let ok1 = n.bytes.ok.0 in
    let put : n.bytes.items ≡ r.bytes.items ++ bytes = c.in_ok-append.ensures.more in
    let fits : r.start ≤ length r.bytes.items = omega (arith, order, within, ok) in
    let marked = c.self.invariant.4 in
    let mark_fits : c.self.inside.mark.end ≤ length r.bytes.items = omega (arith, marked, ok) in
    let text : text_of n ≡ text_of r ++ bytes = more-text r.bytes.items bytes n.bytes.items r.start n.start c.append.ensures.start put fits in (
      c.append.ensures.in_step c.self.invariant.0,
      record {
        told = λ t. subst Expects (sym text) (expects-behind (text_of r) bytes (c.self.invariant.1.told t));
        ended = λ e. absurd (differs (sym e ∙ c.if-not-self.true));
        unread = subst (λ (u : List ℕ). IsUnread u (c.self.inside.unread + length bytes)) (sym text) (unread-behind (text_of r) bytes c.self.inside.unread (length bytes) refl c.self.invariant.1.unread);
      },
      (λ t. c.self.invariant.2 (ap is_told (sym c.append.ensures.edge) ∙ t)),
      c.self.invariant.3,
      (let whole = ap length put ∙ length-append r.bytes.items bytes in omega (arith, mark_fits, whole, ok1)),
      subst IsSound (sym (ap (at_mark c.self.inside.number c.self.inside.mark) put ∙ mark-more c.self.inside.number c.self.inside.mark r.bytes.items bytes mark_fits)) c.self.invariant.5,
    )
  where
    differs : true ≡ false → ⊥
    differs e = absurd cc
