-- Where nothing is read, more is awaited.
use Rattle.std.proofs.Common.{ℕ, List, [], ◌≡◌, ◌∙◌, Ok, inl, inr, refl, sym, ap, subst}
use Rattle.http_edge.specs.Edges.{Expects, IsUnread, LeavesBytes}
use Rattle.gateway_connections.specs.Inlets.{IsSound}
use Rattle.gateway_connections.specs.Inboxes.{inlet_of}
use Rattle.gateway_connections.specs.Reads.{IsIdle}
use Rattle.gateway_connections.specs.Readers.{text_of}
use Rattle.gateway_connections.proofs.Holding.{idle-text}
use Rattle.gateway_connections.proofs.Nothing.{no-bytes, expects-nothing, leaves-nothing}
use Rattle.gateway_connections.proofs.inbox.Inbox.next.Goals.{else-wants_continue-via-then-wants_continue+else-not-self, else-wants_continue-via-else-wants_continue}
use Rattle.gateway_connections.proofs.inbox.Inbox.next.Goals as goal

pub returns-then-len-eq0-clause-reads : goal.returns-then-len-eq0-clause-reads
returns-then-len-eq0-clause-reads c =
    let none : text_of c.self.inside.reader ≡ [] = no-bytes _ (sym c.len.ensures ∙ c.if-len-eq0.true) in
    rw (← c.self.view_is) (record {
      why = inr (record {
        idle = inl none;
        told = λ e. absurd (expects-nothing (subst Expects none e));
        counted = subst (λ (u : List ℕ). LeavesBytes u 0) (sym none) leaves-nothing;
      });
      left = refl;
    })

pub returns-then-not-self-clause-reads : goal.returns-then-not-self-clause-reads
returns-then-not-self-clause-reads c =
    let rests = c.in_ok-incoming.ensures.rests (ap (λ o. Ok o) c.in_default.is) in
    let text_is : text_of c.wants_continue.new.self ≡ text_of c.self.inside.reader = c.wants_continue.ensures.text ∙ (rw (c.in_default.is) at c.in_ok-incoming.ensures.reads) in
    let idle = subst IsIdle text_is (idle-text c.wants_continue.new.self c.wants_continue.ensures.in_step (c.wants_continue.ensures.rests rests)) in
    let counted = subst (λ u. LeavesBytes u c.unread-left.result) (rw (c.in_default.is) at c.in_ok-incoming.ensures.reads) (c.unread-left.ensures.exact c.in_ok-incoming.ensures.in_step rests) in
    rw (← c.self.view_is) (record {
      goes_on = c.if-self.false;
      idle = idle;
      expects = subst Expects (rw (c.in_default.is) at c.in_ok-incoming.ensures.reads) (c.wants_continue.ensures.asks c.if-wants_continue.true);
      untold = c.if-not-self.true;
      counted = counted;
      left = rw text_is refl;
    })

pub returns-else-wants_continue-clause-reads : goal.returns-else-wants_continue-clause-reads
returns-else-wants_continue-clause-reads c =
    let rests = c.in_ok-incoming.ensures.rests (ap (λ o. Ok o) c.in_default.is) in
    let text_is : text_of c.wants_continue.new.self ≡ text_of c.self.inside.reader = c.wants_continue.ensures.text ∙ (rw (c.in_default.is) at c.in_ok-incoming.ensures.reads) in
    let idle = subst IsIdle text_is (idle-text c.wants_continue.new.self c.wants_continue.ensures.in_step (c.wants_continue.ensures.rests rests)) in
    let counted = subst (λ u. LeavesBytes u c.unread-left.result) (rw (c.in_default.is) at c.in_ok-incoming.ensures.reads) (c.unread-left.ensures.exact c.in_ok-incoming.ensures.in_step rests) in
    elim c.else-wants_continue.branch [
      | else-wants_continue-via-then-wants_continue+else-not-self w ↦
          rw (← c.self.view_is, w.self-is) (record {
            why = inr (record { idle = idle; told = λ e. w.if-not-self.false; counted = counted });
            left = rw text_is refl;
          })
      | else-wants_continue-via-else-wants_continue w ↦
          rw (← c.self.view_is, w.self-is) (record {
            why = inr (record {
              idle = idle;
              told = λ e. c.self.invariant.2 (c.in_ok-incoming.ensures.told
                  (sym (rw (w.if-wants_continue.false) at c.wants_continue.ensures.told) ∙ (c.wants_continue.ensures.expects rests).1 (subst Expects (sym text_is) e)));
              counted = counted;
            });
            left = rw text_is refl;
          })
    ]

pub returns-else-wants_continue-clause-sound : goal.returns-else-wants_continue-clause-sound
returns-else-wants_continue-clause-sound c =
    let text_is : text_of c.wants_continue.new.self ≡ text_of c.self.inside.reader = c.wants_continue.ensures.text ∙ (rw (c.in_default.is) at c.in_ok-incoming.ensures.reads) in
    let kept : IsSound (inlet_of c.self.inside.number c.wants_continue.new.self c.self.inside.told c.self.inside.closing c.unread-left.result) = record {
      told = λ t. subst Expects (sym text_is) (c.self.invariant.1.told t);
      ended = λ e. text_is ∙ c.self.invariant.1.ended e;
      unread = subst (λ (u : List ℕ). IsUnread u c.unread-left.result) (sym c.wants_continue.ensures.text) (c.unread-left.ensures.counts c.in_ok-incoming.ensures.in_step);
    } in
    elim c.else-wants_continue.branch [
      | else-wants_continue-via-then-wants_continue+else-not-self w ↦ rw w.self-is kept
      | else-wants_continue-via-else-wants_continue w ↦ rw w.self-is kept
    ]
