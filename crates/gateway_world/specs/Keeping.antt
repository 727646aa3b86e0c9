-- What the type of a world keeps.
use Rattle.std.specs.Prelude.{ℕ, ◌≤◌, List}
use Rattle.limits.specs.declared.TheConstants.{LAST_MOMENT}
use Rattle.media_map.specs.declared.form.Form.{Form}
use Rattle.ask_model.specs.Views.{Rules}
use Rattle.gateway_model.specs.Resting.{AllRest}
use Rattle.gateway_model.specs.Tellings.{AreMapped}
use Rattle.gateway_model.specs.Waiting.{IsDrained}
use Rattle.gateway_world.specs.declared.engine.Engine.{Engine}
use Rattle.gateway_world.specs.Engines.{IsReady}
use Rattle.gateway_world.specs.Leading.{served_of}

-- Nothing is left that could be given out or asked; all that was asked was mapped by the rules; the
-- moment is at most the last one; and an input can be taken back.
abbrev pub IsKept : {R : Type 0} → (Form → Form → List ℕ → List ℕ → Type 0)
    → (Form → Form → List ℕ → Type 0) → Rules → ℕ → Engine R → Type 0
IsKept holds takes rules m e =
    IsReady e × IsDrained e.core × (m ≤ LAST_MOMENT) × AllRest (served_of e)
    × AreMapped holds takes rules e.core.state.entries
