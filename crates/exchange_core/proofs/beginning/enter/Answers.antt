use Rattle.std.proofs.Common.{length, sym, ap, subst, ◌∙◌, arith}
use Rattle.exchange_model.specs.State.{State}
use Rattle.exchange_core.specs.Places.{IsOrdered}
use Rattle.exchange_core.specs.States.{state_of}
use Rattle.exchange_core.proofs.BeginSound.{issued-below, leaves}
use Rattle.exchange_core.proofs.Ordered.{conns-ordered, ordered}
use Rattle.exchange_core.proofs.Sounding.{few-for}
use Rattle.exchange_core.proofs.beginning.enter.Goals as goal

pub add_exchange-requires-clause-issued : goal.add_exchange-requires-clause-issued
add_exchange-requires-clause-issued g c =
    let is = ap (λ (S : State). S.issued) c.make_all_places.ensures.same.state in
    let lt = issued-below _ _ _ _ c.requires.sound in
    omega (arith, is, lt)

pub add_exchange-requires-clause-few : goal.add_exchange-requires-clause-few
add_exchange-requires-clause-few g c =
    let fit = sym (c.in_ok-taken.ensures c.args.moment) ∙ c.if-not-taken.false in
    let left = few-for c.args.moment (state_of c.args.s.now) c.args.draft.now c.requires.sound.kept fit in
    let same = ap (λ (S : State). length S.entries) c.make_all_places.ensures.same.state in
    omega (arith, left, same)

pub add_exchange-requires-clause-ordered : goal.add_exchange-requires-clause-ordered
add_exchange-requires-clause-ordered g c =
    subst IsOrdered (sym c.make_all_places.ensures.same.state) (ordered (state_of c.args.s.now) c.requires.sound.kept)

pub takes-requires-clause-ordered : goal.takes-requires-clause-ordered
takes-requires-clause-ordered g c = conns-ordered (state_of c.args.s.now) c.requires.sound.kept

pub returns-then-not-taken : goal.returns-then-not-taken
returns-then-not-taken g c =
    let e = c.seal.ensures in (
      sym (c.in_ok-taken.ensures c.args.moment) ∙ c.if-not-taken.true,
      record { state = e.state; bytes = e.bytes; room = e.room; answers = e.answers; sends = e.sends },
    )

pub returns : goal.returns
returns g c =
    let e = c.add_exchange.ensures in (
      sym (c.in_ok-taken.ensures c.args.moment) ∙ c.if-not-taken.false,
      leaves c.args.moment c.args.mapped.now.sense c.args.exchange c.args.reader c.args.keeps c.args.submission.waiting c.args.draft.now c.args.s.now c.make_all_places.new.s c.add_exchange.new.s c.make_all_places.ensures.same
          (record { state = e.state; bytes = e.bytes; held = e.held; answers = e.answers; sends = e.sends }),
    )
