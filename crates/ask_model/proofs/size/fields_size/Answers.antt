use Rattle.std.proofs.Common.{rules, ◌≡◌, ℕ, ◌+◌, ◌^◌, ◌<◌, List, [], arith, subst}
use Rattle.std.specs.Prelude.{sum_by}
use Rattle.http_header.specs.FieldValue.{FieldValue}
use Rattle.http_header.specs.HeaderMap.{pairs}
use Rattle.ask_model.specs.Sizes.{field_size, capped}
use Rattle.ask_model.proofs.size.fields_size.Goals as goal

counted : (total : ℕ) (rest : List (List ℕ × FieldValue)) (n : ℕ) → capped (total + sum_by field_size rest) ≡ capped n → rest ≡ [] → total < 2 ^ 64 → total ≡ capped n
counted total rest n h none fits =
    let same : capped (total + 0) ≡ capped n = subst (λ (xs : List (List ℕ × FieldValue)). capped (total + sum_by field_size xs) ≡ capped n) none h in
    omega (arith, same)

pub returns : goal.returns
returns c = counted c.each.total c.each.name-iterator (sum_by field_size (pairs c.args.fields.now)) c.each.invariant.0 (search rules) c.each.invariant.1
