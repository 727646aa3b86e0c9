use Rattle.std.proofs.Common.{◌≡◌, ◌≤◌, List, refl, sym, ap, subst, ◌∙◌}
use Rattle.std.specs.Arc.{arc_value}
use Rattle.limits.specs.declared.TheConstants.{MAX_REQUEST_SIZE}
use Rattle.ask_model.specs.Sizes.{came_size}
use Rattle.ask_model.specs.Views.{Mapping}
use Rattle.exchange_model.specs.State.{State}
use Rattle.exchange_core.specs.Beginning.{MayBegin}
use Rattle.exchange_core.specs.Wording.{IsTextFor, asks_for, keeps_for, wants_for}
use Rattle.exchange_core.specs.States.{state_of}
use Rattle.exchange_core.specs.Watching.{is_renewed_for}
use Rattle.exchange_model.specs.Watching.{tokens_of}
use Rattle.exchange_core.proofs.Begins.{has-place, is-request}
use Rattle.exchange_core.proofs.BeginSound.{same-sound, unnumbered}
use Rattle.exchange_core.proofs.Askable.{askable}
use Rattle.exchange_core.proofs.Read.{pairs-here}
use Rattle.exchange_core.proofs.beginning.begin.Goals as goal

pub first_of-requires-clause-asks : goal.first_of-requires-clause-asks
first_of-requires-clause-asks g c = rw (c.deref.ensures) (is-request (arc_value c.args.mapped).sense c.args.peer c.requires.asked)

pub first_of-requires-clause-askable : goal.first_of-requires-clause-askable
first_of-requires-clause-askable g c = askable (state_of c.args.s.now) c.requires.sound.kept

pub prepare-requires-clause-message : goal.prepare-requires-clause-message
prepare-requires-clause-message g c = rw (c.as_slice.ensures) (unnumbered _ _ _ _ c.in_ok-first.ensures.first.text)

pub ask-requires-clause-sound : goal.ask-requires-clause-sound
ask-requires-clause-sound g c = same-sound _ _ c.requires.sound c.prepare.ensures.same

pub ask-requires-clause-begins : goal.ask-requires-clause-begins
ask-requires-clause-begins g c =
    let place = rw (c.in-Ok.is) at c.prepare.ensures.fault in
    let S = state_of c.args.s.now in
    subst (λ (S : State). MayBegin c.args.moment c.args.word c.args.conn (arc_value c.args.mapped) c.args.peer c.token_of-token.result c.in_ok-first.first.text S)
    (sym c.prepare.ensures.same.state)
    (record {
      unsealed = c.requires.unsealed;
      later = c.requires.later;
      early = c.requires.early;
      idle = c.requires.idle;
      peer = c.requires.asked;
      unserved = c.requires.unserved;
      alone = c.requires.alone;
      spelled = subst (λ (m : Mapping). IsTextFor (asks_for c.args.moment m S) m.sense c.token_of-token.result c.in_ok-first.first.text) c.deref.ensures c.in_ok-first.ensures.first.text;
      small = subst (λ (m : Mapping). came_size m.came ≤ MAX_REQUEST_SIZE) c.deref.ensures c.first_of.ensures.small;
      worded = record { word_is = refl; token_size = c.token_of-token.ensures.size; number = c.token_of-token.ensures.number; random = c.token_of-token.ensures.word };
      place = has-place _ _ (state_of c.args.s.now) c.requires.few place;
    })

pub ask-requires-clause-message : goal.ask-requires-clause-message
ask-requires-clause-message g c = rw (c.as_slice.ensures) at c.in-Ok.ensures.ok

pub ask-requires-clause-observes : goal.ask-requires-clause-observes
ask-requires-clause-observes g c =
    c.in_ok-first.ensures.first.observes
    ∙ ap (λ (m : Mapping). wants_for m c.args.s.now.watches.standing) c.deref.ensures
    ∙ ap (λ (S : State). wants_for (arc_value c.args.mapped) S.watches) (sym c.prepare.ensures.same.state)

pub ask-requires-clause-keeps : goal.ask-requires-clause-keeps
ask-requires-clause-keeps g c =
    c.in_ok-first.ensures.first.keeps
    ∙ ap (λ (m : Mapping). keeps_for c.args.moment m (state_of c.args.s.now)) c.deref.ensures
    ∙ ap (keeps_for c.args.moment (arc_value c.args.mapped)) (sym c.prepare.ensures.same.state)

pub ask-requires-clause-gone : goal.ask-requires-clause-gone
ask-requires-clause-gone g c =
    c.in_ok-gone.ensures
    ∙ ap (λ (m : Mapping). tokens_of (is_renewed_for m.sense) c.args.s.now.watches.standing) c.deref-2.ensures
    ∙ ap (λ (S : State). tokens_of (is_renewed_for (arc_value c.args.mapped).sense) S.watches) (sym c.prepare.ensures.same.state)

pub first_of-requires-clause-here : goal.first_of-requires-clause-here
first_of-requires-clause-here g c = pairs-here (state_of c.args.s.now) c.requires.sound.kept.here
