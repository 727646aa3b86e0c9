use Rattle.std.proofs.Common.{◌≡◌, ℕ, subst}
use Rattle.exchange_model.specs.Sealing.{ticks_in_room}
use Rattle.exchange_core.specs.Calls.{now}
use Rattle.exchange_core.specs.Values.{stepped}
use Rattle.gateway_desk.proofs.desk_state.DeskState.tick.Goals as goal

pub returns-clause-ticks : goal.returns-clause-ticks
returns-clause-ticks g c =
    subst (λ (k : ℕ). c.tick.new.self.core
    ≡ stepped (ticks_in_room (now c.args.self.now.shop.core.state.moment k) c.args.self.now.shop.core.state) c.args.self.now.shop.core)
    c.moment-moment.ensures.reads c.in_ok-tick.ensures.ticks
