-- What a function of the engine leads to.
use Rattle.std.specs.Prelude.{◌≡◌, ◌⊎◌, List, ◌++◌}
use Rattle.std.specs.Arc.{arc_value}
use Rattle.ask_model.specs.Views.{Rules, rules_of}
use Rattle.gateway_world.specs.declared.engine.Context.{Context}
use Rattle.gateway_world.specs.declared.engine.Engine.{Engine}
use Rattle.gateway_model.specs.declared.input.Happening.{Happening}
use Rattle.gateway_model.specs.declared.input.Happening.TheVariants as H
use Rattle.gateway_model.specs.declared.input.Output.{Output}
use Rattle.gateway_model.specs.declared.input.When.{When}
use Rattle.gateway_model.specs.Acts.{Act, Served, Terms, DoesAll, at}
use Rattle.gateway_model.specs.Emissions.{Emission, emissions}
use Rattle.gateway_model.specs.Orders.{IsInOrder}
use Rattle.gateway_model.specs.Rotating.{Rotates}
use Rattle.gateway_model.specs.Unasked.{unasked_in}

-- Acts of this kind are done, and what they give out comes after what was given out before.
pub record Leads (M : Terms) (w : When) (P : List Act → Type 0)
    (old : Served) (before : List Emission) (new : Served) (after : List Emission) : Type 0 where
  pub acts : List Act
  pub order : P acts
  pub given : List Emission
  pub done : DoesAll M w acts old given new
  pub added : after ≡ before ++ given

abbrev pub served_of : {R : Type 0} → Engine R → Served
served_of e = record { core = e.core; unasked = unasked_in e.table.current }

-- so from one engine to the next
abbrev pub LeadsBy : {R : Type 0} → Terms → When → (List Act → Type 0)
    → Engine R → List (Output R) → Engine R → List (Output R) → Type 0
LeadsBy M w P old before new after =
    Leads M w P (served_of old) (emissions before) (served_of new) (emissions after)

-- The journal is given out, or isn't, which comes after what was given out before; and connections
-- stay.
pub record RotatesBy {R : Type 0} (w : When) (old : Engine R) (before : List (Output R))
    (new : Engine R) (after : List (Output R)) : Type 0 where
  pub given : List Emission
  pub rotates : Rotates (at w (served_of old)) old.core given new.core
  pub table : new.table ≡ old.table
  pub added : emissions after ≡ emissions before ++ given

-- What happens leads to acts in order; or it is that the journal is to be given out.
abbrev pub StepsBy : {R : Type 0} → Terms → When → Happening → Engine R → List (Output R)
    → Engine R → List (Output R) → Type 0
StepsBy M w x old before new after =
    LeadsBy M w (IsInOrder x) old before new after
    ⊎ ((x ≡ H.Rotate) × RotatesBy w old before new after)

-- by what rules requests are mapped
abbrev pub rules_in : Context → Rules
rules_in context = rules_of (arc_value context.settings.now)
