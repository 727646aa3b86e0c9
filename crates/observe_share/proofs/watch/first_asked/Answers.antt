use Rattle.std.proofs.Common.{◌≡◌, ◌≤◌, All, Any, [], arith, rules}
use Rattle.std.specs.Prelude.{IfNone, IfSome}
use Rattle.std.proofs.lemmas.Grind.{common_steps}
use Rattle.observe_share.specs.declared.registration.Registration.{Registration}
use Rattle.observe_share.proofs.Due.{first_is}
use Rattle.observe_share.proofs.watch.first_asked.Goals as goal

pub returns : goal.returns
returns c =
    let none : IfNone c.min.result (c.args.standing.now ≡ []) = grind (arith, common_steps) in
    let one : IfSome c.min.result (λ t. Any (λ (r : Registration). r.asked ≡ t) c.args.standing.now) = search rules in
    let least : IfSome c.min.result (λ t. All (λ (r : Registration). t ≤ r.asked) c.args.standing.now) = search rules in
    first_is c.args.standing.now c.min.result none one least
