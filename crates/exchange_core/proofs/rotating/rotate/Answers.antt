use Rattle.std.proofs.Common.{List, ap, ◌∙◌, arith}
use Rattle.exchange_model.specs.State.{PeerLink, State}
use Rattle.exchange_model.specs.Rotating.{turned}
use Rattle.exchange_core.specs.States.{state_of}
use Rattle.exchange_core.proofs.Askable.{askable}
use Rattle.exchange_core.proofs.Sounding.{sound-turned}
use Rattle.exchange_model.proofs.CallerLemmas.{within-limits}
use Rattle.exchange_core.proofs.rotating.rotate.Goals as goal

pub returns-clause-sound : goal.returns-clause-sound
returns-clause-sound g c =
    let S : State = state_of c.args.s.now in
    let e = c.turn.ensures in
    sound-turned c.args.moment S _ _ _ _ _ _ _ c.requires.sound c.requires.later c.requires.early
    c.in_ok-remembered.ensures.none
    (e.state ∙ ap (λ (xs : List PeerLink). turned c.args.moment (record S { links = xs })) c.prepare_keep.ensures.same)
    e.bytes e.place e.answers

pub next_of-requires-clause-askable : goal.next_of-requires-clause-askable
next_of-requires-clause-askable g c = askable (state_of c.args.s.now) c.requires.sound.kept

pub next_of-requires-clause-few : goal.next_of-requires-clause-few
next_of-requires-clause-few g c =
    let held = (within-limits (state_of c.args.s.now) c.requires.sound.kept).0 in
    let whole = c.in_ok-remembered.ensures.whole in omega (arith, held, whole)
