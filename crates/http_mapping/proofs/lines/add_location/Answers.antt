use Rattle.std.proofs.Common.{◌≡◌, ◌++◌, List, ℕ, Option, Some, codes, refl, ap, ◌∙◌}
use Rattle.http_mapping.specs.Located.{located}
use Rattle.http_mapping.specs.Means.{only, value_if}
use Rattle.http_mapping.specs.Writes.{lines}
use Rattle.http_mapping.proofs.Written.{then_adds, one_line}
use Rattle.http_mapping.proofs.lines.add_location.Goals as goal

pub returns-in-Some : goal.returns-in-Some
returns-in-Some g c =
    let out = c.args.out.now.items in
    let m = c.args.mapped.now in
    let place = located m.rules m.sense c.args.response.now in
    let value = c.in-Some.value.items in
    let is : Some value ≡ place = rw c.in-Some.is at c.in_ok-value.ensures in
    then_adds c.add_line.result out _ _ (value_if (codes "Location") place) c.add_line.ensures
    (one_line out (codes "\r\nLocation: ") c.deref.result.now (codes "Location") refl
    ∙ ap (λ (v : List ℕ). out ++ codes "\r\n" ++ lines (only (codes "Location") v)) c.deref.ensures.value
    ∙ ap (λ (o : Option (List ℕ)). out ++ codes "\r\n" ++ lines (value_if (codes "Location") o)) is)
