use Rattle.std.proofs.Common.{◌≡◌, ◌++◌, [], Some, codes, decimal, refl, sym, ap, ◌∙◌}
use Rattle.http_mapping.specs.Means.{Pairs, only, retry_after}
use Rattle.http_mapping.specs.Writes.{lines}
use Rattle.http_mapping.proofs.Rules.{retry_after_of}
use Rattle.http_mapping.proofs.Written.{then_adds, number_line}
use Rattle.http_mapping.proofs.lines.add_retry_after.Goals as goal

pub returns-in-Some : goal.returns-in-Some
returns-in-Some c =
    let out = c.args.out.now.items in
    let w = c.args.response.now in
    let number = c.from.result in
    let seconds : w.max_age ≡ Some number = rw c.from.ensures c.in-Some.is in
    let rule : retry_after w ≡ only (codes "Retry-After") (decimal number) = retry_after_of w number c.if-response.true seconds in
    then_adds c.add_number.result out _ _ (retry_after w) c.add_number.ensures
    (number_line out (codes "\r\nRetry-After: ") (decimal number) (codes "Retry-After") [] refl ∙ ap (λ (p : Pairs). out ++ codes "\r\n" ++ lines p) (sym rule))
