use Rattle.std.proofs.Common.{◌≤◌, sym, ap, subst, ◌∙◌}
use Rattle.limits.specs.declared.TheConstants.{MAX_REQUEST_SIZE}
use Rattle.ask_model.specs.declared.meaning.Meaning.{Meaning}
use Rattle.ask_model.specs.Maps.{Maps}
use Rattle.ask_model.specs.Requests.{Came, Sense}
use Rattle.ask_model.specs.Sizes.{came_size}
use Rattle.ask_model.specs.Views.{Mapping, sense_of, body_of}
use Rattle.history_laws.proofs.CallerLemmas.{maps-refusal}
use Rattle.exchange_core.specs.States.{state_of}
use Rattle.exchange_core.proofs.Ordered.{conns-ordered}
use Rattle.exchange_core.proofs.Asks.{may-be-refused}
use Rattle.exchange_core.proofs.asking.ask.Goals as goal

pub turn_away-requires-clause-refused : goal.turn_away-requires-clause-refused
turn_away-requires-clause-refused g c =
    let k = c.came-came.ensures in
    let m = c.meaning.ensures in
    let d = ap (λ (x : Mapping). x.sense) c.deref-2.ensures in
    let sense = sym (m.sense ∙ d) ∙ ap (λ (x : Meaning). sense_of x (body_of c.deref-2.result.now.came)) c.in-Refuse.is in
    let maps = subst (λ (x : Sense). Maps g.R.Relation.holds g.R.Relation.takes c.deref-2.result.now.rules c.deref-2.result.now.came x) (sym (m.sense) ∙ ap (λ (x : Meaning). sense_of x (body_of c.deref-2.result.now.came)) c.in-Refuse.is) m.maps in
    may-be-refused c.args.moment c.args.conn _ c.in-Refuse.cause _ (state_of c.args.s.now) c.requires.sound.kept c.if-s.false c.requires.later
    (rw (c.as_slice.ensures.value) at (c.in_ok-check_idle.ensures.ok)) (subst (λ (x : Came). came_size x ≤ MAX_REQUEST_SIZE) (ap (λ (x : Mapping). x.came) c.deref.ensures) k.small) sense
    (maps-refusal g.R.Relation.holds g.R.Relation.takes c.deref-2.result.now.rules c.deref-2.result.now.came c.in-Refuse.cause _ maps)

pub check_idle-requires : goal.check_idle-requires
check_idle-requires g c = rw (c.as_slice.ensures.value) (conns-ordered _ c.requires.sound.kept)
