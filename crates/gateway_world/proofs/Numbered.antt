-- The table has the connections of the core after acts that it had before.
use Rattle.std.proofs.Common.{◌≡◌, ℕ, List, [], ◌∷◌, map, refl, sym, ap, ◌∙◌}
use Rattle.exchange_core.specs.Values.{CoreValue}
use Rattle.gateway_connections.specs.Inlets.{Inlet}
use Rattle.gateway_model.specs.declared.input.When.{When}
use Rattle.gateway_model.specs.Acts.{Act, Terms}
use Rattle.gateway_model.specs.Emissions.{Emission}
use Rattle.gateway_model.specs.Unasked.{unasked_in}
use Rattle.gateway_model.specs.Waiting.{conn_id}
use Rattle.gateway_model.specs.Resting.{number_of}
use Rattle.gateway_model.proofs.CallerLemmas.{numbered-all}
use Rattle.gateway_world.specs.Engines.{inlet_number}
use Rattle.gateway_world.specs.Leading.{Leads}

inlets-numbers : (xs : List Inlet) → map number_of (unasked_in xs) ≡ map inlet_number xs
inlets-numbers [] = refl
inlets-numbers (x ∷ xs) = ap (λ (ks : List ℕ). x.number ∷ ks) (inlets-numbers xs)

pub numbers-led : (M : Terms) (w : When) (P : List Act → Type 0) (v u : CoreValue) (xs ys : List Inlet) (before after : List Emission)
    → Leads M w P (record { core = v; unasked = unasked_in xs }) before (record { core = u; unasked = unasked_in ys }) after
    → map inlet_number xs ≡ map conn_id v.state.conns → map inlet_number ys ≡ map conn_id u.state.conns
numbers-led M w P v u xs ys before after h n =
    sym (inlets-numbers ys)
    ∙ numbered-all M w h.acts (record { core = v; unasked = unasked_in xs }) h.given (record { core = u; unasked = unasked_in ys }) h.done
    (inlets-numbers xs ∙ n)
