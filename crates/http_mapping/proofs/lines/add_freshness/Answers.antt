use Rattle.std.proofs.Common.{◌≡◌, ◌++◌, codes, decimal, refl, sym, ap, ◌∙◌}
use Rattle.http_mapping.specs.Means.{Pairs, only, cache_control, seconds_left}
use Rattle.http_mapping.specs.Writes.{lines}
use Rattle.http_mapping.proofs.Rules.{cache_control_of}
use Rattle.http_mapping.proofs.Written.{then_adds, number_line}
use Rattle.http_mapping.proofs.lines.add_freshness.Goals as goal

pub returns : goal.returns
returns c =
    let out = c.args.out.now.items in
    let w = c.args.response.now in
    let left = c.seconds_left.result in
    let text = codes "max-age=" ++ decimal left in
    let is : text ≡ codes "max-age=" ++ decimal (seconds_left w c.args.age) = rw c.seconds_left.ensures refl in
    let rule : cache_control w c.args.age ≡ only (codes "Cache-Control") text = cache_control_of w c.args.age text c.if-response-ne-CONTENT.false is in
    then_adds c.add_number.result out _ _ _ c.add_number.ensures
    (number_line out (codes "\r\nCache-Control: max-age=") (decimal left) (codes "Cache-Control") (codes "max-age=") refl ∙ ap (λ (p : Pairs). out ++ codes "\r\n" ++ lines p) (sym rule))
