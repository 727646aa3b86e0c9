-- Where the bank answers, the transformer that it took is for these forms.
use Rattle.std.proofs.Common.{ℕ, ◌≤◌, length, inl, inr}
use Rattle.std.specs.declared.alloc.Global.{Global}
use Rattle.std.specs.declared.vec.Vec.{Vec}
use Rattle.http_mapping.proofs.Stored.{stands, some_not_none, err_not_none, is_err_of, some_holds}
use Rattle.http_mapping.proofs.applying.applied.Goals as goal

pub returns-in-Ok-Some : goal.returns-in-Ok-Some
returns-in-Ok-Some g c =
    let f = c.apply.ensures.first (λ e. some_not_none _ _ _ c.in-Ok-Some.is c.in-Ok-Some.field-0-is e) in (
      stands _ _ _ _ _ _ f.is_first.parts f.is_first.pair,
      some_holds (λ (v : Vec ℕ Global). g.R.Relation.holds c.args.from.now c.args.to.now c.args.body.now v.items) _ _ c.in-Ok-Some.field-0-is c.in-Ok-Some.ensures.holds,
      some_holds (λ (v : Vec ℕ Global). length v.items ≤ 65536) _ _ c.in-Ok-Some.field-0-is c.in-Ok-Some.ensures.small,
    )

pub returns-in-Err-Refused : goal.returns-in-Err-Refused
returns-in-Err-Refused g c =
    let f = c.apply.ensures.first (λ e. err_not_none _ _ c.in-Err-Refused.is e) in (
      stands _ _ _ _ _ _ f.is_first.parts f.is_first.pair,
      inl (c.apply.ensures.refused (is_err_of _ _ _ c.in-Err-Refused.is c.in-Err-Refused.field-0-is)),
    )

pub returns-in-Err-TooLarge : goal.returns-in-Err-TooLarge
returns-in-Err-TooLarge g c =
    let f = c.apply.ensures.first (λ e. err_not_none _ _ c.in-Err-TooLarge.is e) in (
      stands _ _ _ _ _ _ f.is_first.parts f.is_first.pair,
      inr (c.apply.ensures.too_large (is_err_of _ _ _ c.in-Err-TooLarge.is c.in-Err-TooLarge.field-0-is)),
    )
