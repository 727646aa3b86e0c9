-- The journal is given out, or it is told why not.
use Rattle.std.proofs.Common.{◌≡◌, List, [], ◌∷◌, ◌++◌, ap, ◌∙◌, refl}
use Rattle.gateway_model.specs.declared.input.Output.{Output}
use Rattle.gateway_model.specs.Emissions.{Rotated, Unrotated, emission_of}
use Rattle.gateway_world.proofs.Acting.{refuses-so, rotates-so}
use Rattle.gateway_world.proofs.Rendering.{told-more}
use Rattle.gateway_world.proofs.engine.Engine.rotate.Goals as goal
use Rattle.gateway_world.proofs.engine.Engine.rotate.Goals.{in-Ok, in-Err+in_default}

pub returns-clause-rotates : goal.returns-clause-rotates
returns-clause-rotates g c = λ taken.
    let added : c.push_reserved.new.self.items ≡ c.args.outputs.now.items ++ c.match-rotate.output ∷ [] =
    c.push_reserved.ensures.items ∙ ap (λ (xs : List (Output g.row.R.Denot)). xs ++ c.match-rotate.output ∷ []) c.in_ok-try_reserve.ensures.items in
    elim c.match-rotate.branch [
      | in-Ok w ↦
          rotates-so c.args.context.when w.in-Ok.journal.entries c.args.self.now _ c.args.outputs.now.items c.push_reserved.new.self.items
          w.in-Ok.ensures.turned refl
          (told-more _ _ c.match-rotate.output (Rotated w.in-Ok.journal.entries) added (ap emission_of w.output-is))
      | in-Err+in_default w ↦
          refuses-so c.args.context.when w.in-Err.fault c.args.self.now _ c.args.outputs.now.items c.push_reserved.new.self.items
          w.in-Err.ensures.refused.0 w.in-Err.ensures.refused.1 w.in_default.not-Memory refl
          (told-more _ _ c.match-rotate.output (Unrotated w.in-Err.fault) added (ap emission_of w.output-is))
    ]
