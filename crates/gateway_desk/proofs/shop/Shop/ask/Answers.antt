-- An ask is one more, in the journal as in the book; one that is refused is none.
use Rattle.std.proofs.Common.{Ok, sym, subst, ◌∙◌}
use Rattle.std.specs.Arc.{arc_value}
use Rattle.journal_book.specs.Views.{ask_of}
use Rattle.exchange_core.specs.Calls.{now, IsAsked}
use Rattle.gateway_desk.proofs.Growing.{asked-step, refused-step, asks-on, as-many, unsent-on}
use Rattle.gateway_desk.proofs.shop.Shop.ask.Goals as goal

pub invariant_of-self : goal.invariant_of-self
invariant_of-self g c =
    let step = refused-step c.in_err-ticket.field-0.0 _ c.args.word c.conn.result _ c.self.inside.core c.ask.new.self
    c.in_err-ticket.ensures.asks in (
      as-many _ _ _ step c.self.invariant.0,
      unsent-on _ _ _ step c.self.invariant.1,
      c.self.invariant.2,
      c.self.invariant.3,
      step.given ∙ c.self.invariant.4,
    )

pub invariant_of-self-2 : goal.invariant_of-self-2
invariant_of-self-2 g c =
    let step = asked-step c.in_ok-ticket.ticket.number _ c.args.word c.conn.result _ c.self.inside.core c.ask.new.self
    c.in_ok-ticket.ensures.asks in (
      asks-on 1 _ _ _ step c.self.invariant.0 ∙ sym c.count.ensures.book,
      unsent-on _ _ _ step c.self.invariant.1,
      c.self.invariant.2,
      c.self.invariant.3,
      step.given ∙ c.self.invariant.4,
    )

pub returns-clause-asks : goal.returns-clause-asks
returns-clause-asks g c =
    rw (← c.self.view_is)
    (subst
    (λ n. IsAsked (Ok c.in_ok-ticket.ticket.number) (now c.self.inside.core.state.moment c.args.moment) c.args.word n
    (ask_of (arc_value c.args.mapped)) c.self.inside.core c.ask.new.self)
    (c.conn.ensures ∙ c.make_places.ensures.conn) c.in_ok-ticket.ensures.asks)
