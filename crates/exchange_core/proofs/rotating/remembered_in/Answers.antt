-- Where memory is refused, there is no reason against a turn but what is to be copied.
use Rattle.std.proofs.Common.{◌≡◌, ℕ, Bool, true, false, cond, inl, inr, Option, Some, None, Result, Ok, Err, sym, subst}
use Rattle.std.specs.Prelude.{IfErr}
use Rattle.std.specs.Result.{IsErrAnd}
use Rattle.exchange_model.specs.State.{State}
use Rattle.exchange_model.specs.Rotating.{Crowded, fault_of}
use Rattle.exchange_core.specs.declared.fault.RotateFault.{RotateFault}
use Rattle.exchange_core.specs.declared.fault.RotateFault.TheVariants as F
use Rattle.exchange_core.specs.Rotating.{IsRefused}
use Rattle.exchange_core.specs.States.{state_of}
use Rattle.exchange_core.proofs.rotating.remembered_in.Goals as goal

memory-so : (t : ℕ) (S : State) (b : Bool) → fault_of t S ≡ cond b (Some Crowded) None → IsRefused t S F.Memory
memory-so t S true e = inr e
memory-so t S false e = inl e

err-so : {T E : Type 0} (r : Result T E) (P Q : E → Type 0) → IsErrAnd r P → ((x : E) → P x → Q x) → IfErr r Q
err-so (Ok v) P Q h f = tt
err-so (Err e) P Q h f = f e h

pub returns-in_err-marks-clause-refused : goal.returns-in_err-marks-clause-refused
returns-in_err-marks-clause-refused g c =
    err-so c.from_residual.result (λ (x : RotateFault). x ≡ F.Memory) (IsRefused c.args.moment (state_of c.args.s.now)) c.from_residual.ensures.1
    (λ x e. subst (IsRefused c.args.moment (state_of c.args.s.now)) (sym e)
    (memory-so c.args.moment (state_of c.args.s.now) _ (c.fault.ensures.none c.in_default.is)))
