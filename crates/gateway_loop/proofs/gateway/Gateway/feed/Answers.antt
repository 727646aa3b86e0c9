-- The first of what was read of the connection is an input.
use Rattle.std.proofs.Common.{ap, refl, ◌∙◌}
use Rattle.std.specs.Prelude.{slice_get}
use Rattle.std.proofs.lemmas.Result.{IfOk-weaker}
use Rattle.gateway_model.specs.declared.input.Happening.TheVariants as H
use Rattle.gateway_model.specs.Emissions.{emissions}
use Rattle.gateway_world.proofs.Running.{takes-rules}
use Rattle.gateway_loop.proofs.Standing.{serving-at}
use Rattle.gateway_loop.proofs.Stepping.{counted, not-refused, taken}
use Rattle.gateway_loop.proofs.Taking.{piece-unfed, serving-feeds}
use Rattle.gateway_loop.proofs.Tellings.{tells-from}
use Rattle.gateway_loop.proofs.gateway.Gateway.feed.Goals as goal

pub feed-requires : goal.feed-requires
feed-requires g c =
    piece-unfed (slice_get c.deref_mut-inside.result.now.clients.places c.args.number)
    c.piece-piece.result.now
    c.piece-piece.ensures

pub of-requires : goal.of-requires
of-requires g c =
    serving-feeds g.R.Relation.holds g.R.Relation.takes g.S.Stream.written g.S.Stream.gave g.W.Wire.sent
    g.W.Wire.heard
    (record { moment = c.args.when.moment; word = c.args.when.word; happening = H.Bytes c.args.number c.piece-piece.result }) c.in-Taken.field-0 (emissions c.advance.new.outputs.items)
    c.self.inside.world c.in_ok-world.field-0.world c.deref_mut-inside.result.now.clients.places c.feed.new.self.places
    c.deliver.new.clients.places c.deref_mut-inside.result.now.wire c.deliver.new.wire
    c.args.number c.piece-piece.result.now c.deref_mut-inside.result.now.clients.told c.deliver.new.clients.told
    (serving-at g.R.Relation.holds g.R.Relation.takes g.S.Stream.written g.S.Stream.gave g.W.Wire.sent
    g.W.Wire.heard c.self.inside.world _ _ c.deref_mut-inside.ensures.value c.self.invariant) (taken _ _ c.in-Taken.is c.in_ok-world.ensures.takes)
    (counted _ _ _ _ _ c.in-Taken.is c.in_ok-world.ensures.opened) (refl, refl)
    c.piece-piece.ensures
    c.feed.ensures.feeds
    c.deliver.ensures.given c.deliver.ensures.wire c.deliver.ensures.quiet
    (tells-from (emissions c.advance.new.outputs.items) c.deref_mut-inside.result.now.clients.told c.feed.new.self.told c.deliver.new.clients.told
    c.feed.ensures.told c.deliver.ensures.told)

pub returns : goal.returns
returns g c = record {
  rules = rw (← c.self.view_is) (ap (λ v. v.world.rules) c.of.ensures
      ∙ takes-rules g.R.Relation.holds g.R.Relation.takes
      (record { moment = c.args.when.moment; word = c.args.when.word; happening = H.Bytes c.args.number c.piece-piece.result })
      c.self.inside.world c.in_ok-world.field-0.world (emissions c.advance.new.outputs.items)
      (taken _ _ c.in-Taken.is c.in_ok-world.ensures.takes));
}

pub of-gateway-requires : goal.of-gateway-requires
of-gateway-requires g c =
    serving-at g.R.Relation.holds g.R.Relation.takes g.S.Stream.written g.S.Stream.gave g.W.Wire.sent
    g.W.Wire.heard c.self.inside.world _ _ c.deref_mut-inside.ensures.value c.self.invariant

pub end-requires : goal.end-requires
end-requires g c = let s = rw (← c.self.view_is) at c.requires.suits in record
    { suits = rw c.of-gateway.ensures s }

pub returns-then-is_too_much : goal.returns-then-is_too_much
returns-then-is_too_much g c =
    let same = ap (λ v. v.world.rules) c.of-gateway.ensures in
    record { rules = rw (← c.self.view_is) (IfOk-weaker c.end.result _ _ (λ l e. e ∙ same) c.end.ensures.rules) }

pub unreachable-unreachable : goal.unreachable-unreachable
unreachable-unreachable g c =
    not-refused _ (H.Bytes c.args.number c.piece-piece.result) c.in-Refused.is
    c.in_ok-world.ensures.refused (λ m. m)

pub advance-requires-clause-suits : goal.advance-requires-clause-suits
advance-requires-clause-suits g c = let s = rw (← c.self.view_is) at c.requires.suits in s
