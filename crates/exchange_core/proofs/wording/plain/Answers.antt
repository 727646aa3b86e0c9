use Rattle.std.proofs.Common.{◌≤◌, List, ℕ, length, refl, subst}
use Rattle.limits.specs.declared.TheConstants.{MAX_BODY_LEN}
use Rattle.exchange_core.proofs.BeginSound.{text-plain}
use Rattle.exchange_core.proofs.wording.plain.Goals as goal

pub returns : goal.returns
returns g c =
    let sense = c.args.mapped.now.sense in
    let body = subst (λ (b : List ℕ). length b ≤ MAX_BODY_LEN) c.body-body.ensures.body c.body-body.ensures.short in
    (refl, refl, text-plain sense c.args.token.now c.in-Some.text body (rw c.in-Some.is at c.in_ok-text.ensures.sent) (rw c.in-Some.is at c.in_ok-text.ensures.len))
