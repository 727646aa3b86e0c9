-- What a world took from the beginning on keeps what is promised of a run.
use Rattle.std.proofs.Common.{◌≡◌, ℕ, List, refl}
use Rattle.media_map.specs.declared.form.Form.{Form}
use Rattle.ask_model.specs.Views.{Rules}
use Rattle.history_laws.specs.Justified.{Stands}
use Rattle.history_claims.specs.Order.{KeepsOrder}
use Rattle.gateway_model.specs.declared.input.Input.{Input}
use Rattle.gateway_model.specs.Emissions.{Emission, IsWhole}
use Rattle.gateway_world.specs.Inputs.{TakesAll}
use Rattle.gateway_world.specs.Runs.{KeepsPromises}
use Rattle.gateway_world.specs.Worlds.{WorldValue, IsAtRest, new_world, served_in}
use Rattle.gateway_world.proofs.AskedInRun.{run-asks}
use Rattle.gateway_world.proofs.Once.{run-lives}
use Rattle.gateway_world.proofs.Parted.{run-causes, run-in-order, run-mapped, run-once, run-sends, run-stands, run-tells}
use Rattle.gateway_world.proofs.Promises.{rests-alone}

begins-at-rest : (rules : Rules) → IsAtRest (new_world rules)
begins-at-rest rules = record {
  drained = record { sends = refl; answers = refl };
  rests = rests-alone (served_in (new_world rules)) refl refl;
}

pub keeps-promises : (holds : Form → Form → List ℕ → List ℕ → Type 0) (takes : Form → Form → List ℕ → Type 0) → KeepsOrder
    → (rules : Rules) (is : List Input) (out : List Emission) (w : WorldValue) → TakesAll holds takes is (new_world rules) out w
    → IsWhole out → Stands w.core.state.entries → KeepsPromises holds takes rules is out w.core.state.entries
keeps-promises holds takes order rules is out w run whole stands =
    let begun : WorldValue = new_world rules in
    record {
      stands = run-stands holds takes rules is begun w w.core.state.entries out refl run stands refl whole;
      told = run-tells holds takes rules is begun w w.core.state.entries out refl run stands refl whole;
      mapped = run-mapped holds takes rules is begun w w.core.state.entries out refl run stands refl whole;
      causes = run-causes holds takes rules is begun w w.core.state.entries out refl run stands refl whole;
      once = run-once holds takes rules is begun w w.core.state.entries out refl run stands refl whole;
      in_order = run-in-order holds takes rules is begun w w.core.state.entries out refl run stands refl whole order;
      asks = run-asks holds takes rules is begun w w.core.state.entries out refl run refl;
      sends = run-sends holds takes rules is begun w w.core.state.entries out refl run stands refl whole;
      lives = run-lives holds takes rules is begun w out w.core.state.entries refl (begins-at-rest rules) run;
    }
