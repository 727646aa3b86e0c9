-- The rules stay.
use Rattle.std.proofs.Common.{Result, Ok, Err, ap, ◌∙◌}
use Rattle.std.specs.Option.{IfSome}
use Rattle.std.specs.Result.{IfOk, result_ok}
use Rattle.std.proofs.lemmas.Result.{IfOk-weaker}
use Rattle.gateway_loop.specs.Gateways.{GatewayValue}
use Rattle.trials_loop.proofs.flowing.turned.Goals as goal

IfSome-of_ok : {X E : Type 0} (r : Result X E) (P : X → Type 0) → IfOk r P → IfSome (result_ok r) P
IfSome-of_ok (Ok x) P h = h
IfSome-of_ok (Err e) P h = h

pub turn-requires : goal.turn-requires
turn-requires g c = record { suits = rw c.wait.ensures c.requires }

pub returns : goal.returns
returns g c =
    let same = ap (λ (v : GatewayValue _ _). v.world.rules) c.wait.ensures in
    rw c.ok.ensures.value
    (IfSome-of_ok c.turn.result _ (IfOk-weaker c.turn.result _ _ (λ l e. e ∙ same) c.turn.ensures.rules))
