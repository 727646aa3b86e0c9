-- What the engine leads to is what the world does.
use Rattle.std.proofs.Common.{◌≡◌, ℕ, List, [], sym, subst, refl}
use Rattle.gateway_connections.specs.Inlets.{Inlet}
use Rattle.exchange_core.specs.Values.{CoreValue}
use Rattle.gateway_model.specs.declared.input.Input.{Input}
use Rattle.gateway_model.specs.Acts.{Terms}
use Rattle.gateway_model.specs.Emissions.{Emission}
use Rattle.gateway_world.specs.Leading.{Leads}
use Rattle.gateway_model.specs.Orders.{IsInOrder}
use Rattle.gateway_model.specs.Unasked.{unasked_in}
use Rattle.gateway_world.specs.Worlds.{WorldValue, Handles, served_in, counted}

pub handled : (M : Terms) (i : Input) (old : WorldValue) (u : CoreValue) (ys zs : List Inlet) (t : ℕ)
    (before out : List Emission)
    → Leads M (record { moment = t; word = i.word }) (IsInOrder i.happening) (served_in old) before
    (record { core = u; unasked = unasked_in ys }) out
    → before ≡ [] → zs ≡ ys → t ≡ counted old.moment i.moment
    → Handles M i old out (record { core = u; inlets = zs; rules = old.rules; moment = t })
handled M i old u ys zs t before out l none same now = record {
  acts =
      subst (λ (x : ℕ). Leads M (record { moment = x; word = i.word }) (IsInOrder i.happening) (served_in old) []
      (record { core = u; unasked = unasked_in zs }) out) now
      (subst (λ (xs : List Inlet). Leads M (record { moment = t; word = i.word }) (IsInOrder i.happening) (served_in old) []
      (record { core = u; unasked = unasked_in xs }) out) (sym same)
      (subst (λ (b : List Emission). Leads M (record { moment = t; word = i.word }) (IsInOrder i.happening) (served_in old) b
      (record { core = u; unasked = unasked_in ys }) out) none l));
  rules = refl;
  moment = now;
}
