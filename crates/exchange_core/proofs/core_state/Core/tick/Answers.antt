use Rattle.std.proofs.Common.{◌≡◌, ℕ, sym, ap, subst, ◌∙◌}
use Rattle.std.specs.Prelude.{OnOk}
use Rattle.exchange_model.specs.Room.{KeptInRoom}
use Rattle.exchange_model.specs.Sealing.{ticks_in_room}
use Rattle.exchange_core.specs.Calls.{now}
use Rattle.exchange_core.specs.States.{seen, state_of}
use Rattle.exchange_core.specs.Values.{CoreValue, stepped}
use Rattle.exchange_core.proofs.core_state.Core.tick.Goals as goal

pub returns-clause-ticks : goal.returns-clause-ticks
returns-clause-ticks g c =
    let old = c.self.inside.state in
    let at : c.now-moment.result ≡ now (state_of old).moment c.args.moment =
    c.now-moment.ensures.is ∙ ap (λ (v : CoreValue). now v.state.moment c.args.moment) (sym c.self.view_is) in
    subst (λ (v : CoreValue). OnOk c.tick.result
    (seen c.tick.new.s ≡ stepped (ticks_in_room (now v.state.moment c.args.moment) v.state) v)) c.self.view_is
    (subst (λ (k : ℕ). OnOk c.tick.result
    (seen c.tick.new.s ≡ stepped (ticks_in_room k (state_of old)) (seen old))) at c.tick.ensures.ticks)

pub returns-clause-kept : goal.returns-clause-kept
returns-clause-kept g c = subst (λ (v : CoreValue). KeptInRoom v.state) c.self.view_is c.self.invariant.kept
